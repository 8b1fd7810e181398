use Rattle.std.proofs.Common.{◌≡◌, ◌≤◌, ◌-◌}
use Rattle.std.specs.List.{range_with_len}
use Rattle.contiguity_plan.specs.Costs.{pages_in}
use Rattle.contiguity_plan.proofs.cheapest.pages_of.Given as goal

abbrev pub invariant-loop-frame : goal.invariant-loop-frame
invariant-loop-frame l = record {
  from : l.first ≤ l.frame;
  pages_are : l.pages.items ≡ pages_in l.uses (range_with_len l.first (l.frame - l.first));
}
