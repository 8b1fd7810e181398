use Rattle.std.proofs.Common.{◌≡◌, ℕ, set, Some, None, sym, subst, ◌∙◌, arith}
use Rattle.pager_model.specs.FrameStates.{FrameState, dropped, frame_of}
use Rattle.followed_frames.specs.Ready.{AreInHand, IsReached}
use Rattle.followed_frames.proofs.Hands.{hands_taken, in_hand_dropped, reached_dropped, unplaced_dropped}
use Rattle.followed_frames.proofs.frames.FollowedFrames.use_held.Goals as goal

pub index_mut-requires : goal.index_mut-requires
index_mut-requires c =
    let st = c.self.inside.pool in
    let hands = c.self.inside.hands.items in
    let reached = subst IsReached (sym c.self.view_is) c.requires.reached in
    let none = subst (λ (st : FrameState). frame_of st c.args.space c.args.page ≡ None) (sym c.self.view_is) c.requires.unplaced in
    let t = c.use_held-taken.ensures in
    let all = hands_taken hands (dropped st c.args.processor) c.args.space c.args.page c.args.want.now t.0 c.use_held-taken.result
    (reached_dropped st c.args.processor reached) (in_hand_dropped hands st c.args.processor reached c.self.invariant)
    (unplaced_dropped st c.args.processor c.args.space c.args.page reached none) t.1 t.3 in
    omega (arith, all.0, c.number-number.ensures, t.3)

pub invariant_of-self : goal.invariant_of-self
invariant_of-self c =
    let st = c.self.inside.pool in
    let hands = c.self.inside.hands.items in
    let reached = subst IsReached (sym c.self.view_is) c.requires.reached in
    let none = subst (λ (st : FrameState). frame_of st c.args.space c.args.page ≡ None) (sym c.self.view_is) c.requires.unplaced in
    let t = c.use_held-taken.ensures in
    let all = hands_taken hands (dropped st c.args.processor) c.args.space c.args.page c.args.want.now t.0 c.use_held-taken.result
    (reached_dropped st c.args.processor reached) (in_hand_dropped hands st c.args.processor reached c.self.invariant)
    (unplaced_dropped st c.args.processor c.args.space c.args.page reached none) t.1 t.3 in
    subst (λ (n : ℕ). AreInHand (set c.self.inside.hands.items n (Some c.use_held-taken.result)) c.use_held-taken.new.self) (sym (c.number-number.ensures ∙ t.3))
    (subst (AreInHand (set c.self.inside.hands.items t.0.frame (Some c.use_held-taken.result))) (sym t.2) all.1)
