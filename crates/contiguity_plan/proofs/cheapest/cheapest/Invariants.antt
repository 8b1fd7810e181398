use Rattle.std.proofs.Common.{◌*◌}
use Rattle.contiguity_plan.specs.Costs.{stays, has_use, emptying, IsBest}
use Rattle.contiguity_plan.proofs.cheapest.cheapest.Given as goal

abbrev pub invariant-loop-number : goal.invariant-loop-number
invariant-loop-number l = IsBest (λ n. emptying (stays l.uses l.held) (has_use l.uses) (n * l.count) l.count) l.number l.best
