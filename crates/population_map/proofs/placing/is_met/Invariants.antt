use Rattle.std.proofs.Common.{◌≡◌, ◌+◌, ◌<◌, ◌≤◌, ℕ, None}
use Rattle.extent_tree.specs.Rows.{spot_of}
use Rattle.population_map.specs.Populations.{id_of}
use Rattle.population_map.proofs.placing.is_met.Given as goal

-- what is at the extent so far was seen, and none round it is placed
abbrev pub invariant-loop-above : goal.invariant-loop-above
invariant-loop-above g l = record {
  seen : l.spot ≡ spot_of l.tree l.above l.page;
  none : (size : ℕ) → 3 < size + l.above → size ≤ 3 → id_of l.tree size l.page ≡ None;
  cost : l.steps ≤ l.fn.steps + (1 + l.above);
}
