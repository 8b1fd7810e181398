use Rattle.std.proofs.Common.{sym, subst}
use Rattle.followed_frames.specs.Ready.{AreInHand, IsReached}
use Rattle.followed_frames.proofs.Hands.{counted_hands, in_hand_dropped}
use Rattle.pager_model.specs.FrameStates.{dropped}
use Rattle.followed_frames.proofs.frames.FollowedFrames.drop_held.Goals as goal

pub invariant_of-self : goal.invariant_of-self
invariant_of-self c =
    let st = c.self.inside.pool in
    let reached = subst IsReached (sym c.self.view_is) c.requires.reached in
    subst (AreInHand c.self.inside.hands.items) (sym c.drop_held.ensures.dropped)
    (counted_hands c.self.inside.hands.items (dropped st c.args.processor) (in_hand_dropped c.self.inside.hands.items st c.args.processor reached c.self.invariant))
