use Rattle.std.proofs.Common.{sym, ap, ◌∙◌}
use Rattle.std.proofs.lemmas.Bool.{false≢true}
use Rattle.pager_model.specs.FrameStates.{FrameState, is_short}
use Rattle.followed_frames.proofs.FullCounts.{full-is_short, is_short-full}
use Rattle.followed_frames.proofs.frames.FollowedFrames.is_full.Goals as goal

pub returns-clause-full : goal.returns-clause-full
returns-clause-full c = λ is.
    let r = c.requires.reached in
    full-is_short r.frames r.processors c.args.self.now r.sound
    (ap (λ (st : FrameState). is_short st 1) (sym c.self.view_is) ∙ sym c.is_short.ensures ∙ is)

pub returns-clause-not_full : goal.returns-clause-not_full
returns-clause-not_full c = λ is full.
    let r = c.requires.reached in
    false≢true (sym is ∙ c.is_short.ensures ∙ ap (λ (st : FrameState). is_short st 1) c.self.view_is
    ∙ is_short-full r.frames r.processors c.args.self.now r.sound full)
