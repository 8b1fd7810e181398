use Rattle.std.proofs.Common.{None, sym, subst}
use Rattle.followed_frames.specs.Ready.{AreInHand}
use Rattle.followed_frames.proofs.Hands.{counted_hands, in_hand_claimed}
use Rattle.pager_model.specs.FrameStates.{claimed}
use Rattle.followed_frames.proofs.frames.FollowedFrames.unclaim.Goals as goal

pub invariant_of-self : goal.invariant_of-self
invariant_of-self c =
    let st = c.self.inside.pool in
    subst (AreInHand c.self.inside.hands.items) (sym c.unclaim.ensures.unclaimed)
    (counted_hands c.self.inside.hands.items (claimed st c.unclaim.result None) (in_hand_claimed c.self.inside.hands.items st c.unclaim.result None c.self.invariant))
