use Rattle.std.proofs.Common.{◌≡◌, ◌+◌, ◌*◌, ℕ, ◌≤◌, Bool, List, length}
use Rattle.buddy_extents.specs.Blocks.{InHand}
use Rattle.buddy_extents.proofs.hand.put_in.Given as goal
use Rattle.pager_model.specs.Bounds.{most_frames}

-- the frame's block of the order so far is in hand
abbrev pub invariant-loop-order : goal.invariant-loop-order
invariant-loop-order g l = record {
  nodes : length l.nodes ≡ 65472;
  cost : l.steps + 7 * l.fn.order ≡ l.fn.steps + 7 * l.order;
  in_hand : (frames : ℕ) (free : List Bool) → frames ≤ most_frames → InHand l.fn.nodes frames l.fn.order l.frame free
      → InHand l.nodes frames l.order l.frame free;
}
