use Rattle.std.proofs.Common.{◌≡◌, ℕ, ◌+◌, ◌<◌, ◌≤◌, Some, None}
use Rattle.extent_tree.specs.Rows.{place_of, row}
use Rattle.extent_tree.proofs.walk.row_round.Given as goal

-- the place so far, and no larger extent has a row
abbrev pub invariant-loop-height : goal.invariant-loop-height
invariant-loop-height g l = record {
  place : place_of l.store l.height l.page ≡ Some l.place;
  larger : (size : ℕ) → 3 < size + l.height → size ≤ 3 → row l.store size l.page ≡ None;
  cost : l.steps ≤ l.fn.steps + l.height;
}
