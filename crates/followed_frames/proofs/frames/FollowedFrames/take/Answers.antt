use Rattle.std.proofs.Common.{◌≡◌, ℕ, set, Some, None, sym, subst, ◌∙◌}
use Rattle.pager_model.specs.FrameStates.{FrameState, IsFull, frame_of}
use Rattle.followed_frames.specs.Ready.{AreInHand, IsReached}
use Rattle.followed_frames.proofs.Hands.{hands_taken}
use Rattle.followed_frames.proofs.Rows.{full-takes_none}
use Rattle.followed_frames.proofs.frames.FollowedFrames.take.Goals as goal

pub returns-in_default-clause-other : goal.returns-in_default-clause-other
returns-in_default-clause-other c = λ _ takes.
    full-takes_none c.args.self.now c.args.space c.args.page c.args.frame c.args.want.now c.requires.reached c.requires.unplaced
    (subst IsFull c.self.view_is c.in_default.ensures.full.0) takes

pub invariant_of-self-2 : goal.invariant_of-self-2
invariant_of-self-2 c =
    let reached = subst IsReached (sym c.self.view_is) c.requires.reached in
    let none = subst (λ (st : FrameState). frame_of st c.args.space c.args.page ≡ None) (sym c.self.view_is) c.requires.unplaced in
    let t = c.in-Ok.ensures.taken in
    let all = hands_taken c.self.inside.hands.items c.self.inside.pool c.args.space c.args.page c.args.want.now t.0 c.in-Ok.taken reached c.self.invariant none t.1 t.3 in
    subst (λ (n : ℕ). AreInHand (set c.self.inside.hands.items n (Some c.in-Ok.taken)) c.take.new.self) (sym (c.number-number.ensures ∙ t.3))
    (subst (AreInHand (set c.self.inside.hands.items t.0.frame (Some c.in-Ok.taken))) (sym t.2) all.1)
