use Rattle.std.proofs.Common.{◌<◌}
use Rattle.std.specs.List.{All}
use Rattle.run_tests.proofs.tests.machine.turns_of.Given as goal

abbrev pub invariant-loop-digit : goal.invariant-loop-digit
invariant-loop-digit g l =
    record {
      some : 0 < l.actors;
      known : All (λ c. c < l.actors) l.turns.items;
    }
