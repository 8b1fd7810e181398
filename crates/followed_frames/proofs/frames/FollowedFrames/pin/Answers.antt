use Rattle.followed_frames.proofs.PinnedHands.{hands_pinned}
use Rattle.followed_frames.proofs.frames.FollowedFrames.pin.Goals as goal

pub invariant_of-self : goal.invariant_of-self
invariant_of-self c =
    hands_pinned c.self.inside.hands.items c.self.inside.pool c.pin.new.self c.args.space c.args.first c.args.length c.args.wired c.pin.result
    c.self.invariant c.pin.ensures.kept c.pin.ensures.pinned
