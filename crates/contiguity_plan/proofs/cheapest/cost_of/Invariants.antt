use Rattle.std.proofs.Common.{◌≡◌, ◌≤◌, ◌<◌, ◌-◌, ℕ, false, count_by}
use Rattle.std.specs.List.{range_with_len}
use Rattle.contiguity_plan.specs.Costs.{stays, has_use}
use Rattle.contiguity_plan.proofs.cheapest.cost_of.Given as goal

abbrev pub invariant-loop-frame : goal.invariant-loop-frame
invariant-loop-frame l = record {
  from : l.first ≤ l.frame;
  few : l.cost ≤ l.frame - l.first;
  loose : (f : ℕ) → l.first ≤ f → f < l.frame → stays l.uses l.held f ≡ false;
  cost_is : l.cost ≡ count_by (has_use l.uses) (range_with_len l.first (l.frame - l.first));
}
