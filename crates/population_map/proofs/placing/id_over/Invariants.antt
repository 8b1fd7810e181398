use Rattle.std.proofs.Common.{◌≡◌, ◌+◌, ◌<◌, ◌≤◌, ℕ, None}
use Rattle.extent_tree.specs.Rows.{spot_of}
use Rattle.population_map.specs.Populations.{id_of}
use Rattle.population_map.proofs.placing.id_over.Given as goal

-- what is at the extent so far was seen, and none round it is placed
abbrev pub invariant-loop-below : goal.invariant-loop-below
invariant-loop-below g l = record {
  seen : l.spot ≡ spot_of l.tree l.below l.page;
  none : (size : ℕ) → 3 < size + l.below → size ≤ 3 → id_of l.tree size l.page ≡ None;
  cost : l.steps ≤ l.fn.steps + (1 + l.below);
}
