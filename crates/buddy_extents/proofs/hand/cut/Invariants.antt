use Rattle.std.proofs.Common.{◌≡◌, ◌+◌, ◌*◌, ℕ, ◌≤◌, Bool, List, length}
use Rattle.buddy_extents.specs.Blocks.{InHand}
use Rattle.buddy_extents.proofs.hand.cut.Given as goal
use Rattle.pager_model.specs.Bounds.{most_frames}

-- the frame's block of the order so far is in hand
abbrev pub invariant-loop-order : goal.invariant-loop-order
invariant-loop-order g l = record {
  nodes : length l.nodes ≡ 65472;
  part : l.part ≤ l.order;
  small : l.order ≤ 9;
  cost : l.steps + 6 * l.order ≡ l.fn.steps + 6 * l.whole;
  in_hand : (frames : ℕ) (free : List Bool) → frames ≤ most_frames → InHand l.fn.nodes frames l.whole l.frame free
      → InHand l.nodes frames l.order l.frame free;
}

abbrev pub decreases-loop-order : goal.decreases-loop-order
decreases-loop-order g l = l.order
