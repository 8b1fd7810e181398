use Rattle.std.proofs.Common.{◌≡◌, ℕ, refl}
use Rattle.pager_model.specs.declared.entry.Entry.{Entry}
use Rattle.pager_model.specs.declared.entry.What.{What}
use Rattle.pager_model.specs.declared.entry.What.TheVariants.{Clear}
use Rattle.pager_model.specs.FrameStates.{FrameState}
use Rattle.followed_frames.specs.Ready.{IsReady}
use Rattle.told_space.specs.declared.space.ToldSpace.{ToldSpace}
use Rattle.history_check.specs.Ready.{IsReadyWhat}
use Rattle.history_check.proofs.judge.judge_frames.Goals as goal

-- of what clears no range
unless_clear : (st : FrameState) (told : ToldSpace) (e : Entry) (what : What) → ((first len : ℕ) → what ≡ Clear first len → ⊥)
    → IsReadyWhat st told e what → IsReady st e
unless_clear st told e (Clear first len) never ready = absurd (never first len refl)
unless_clear st told e what never ready = ready

pub judge-requires-clause-ready : goal.judge-requires-clause-ready
judge-requires-clause-ready c =
    unless_clear c.args.frames.now c.args.space.now c.args.entry.now c.args.entry.now.what c.in_default.not-Clear (c.requires.ready c.if-not-entry.false)
