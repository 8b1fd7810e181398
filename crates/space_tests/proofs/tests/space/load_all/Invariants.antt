use Rattle.std.proofs.Common.{◌≡◌}
use Rattle.space_tests.specs.Spares.{HasSpare}
use Rattle.space_tests.proofs.tests.space.load_all.Given as goal

abbrev pub invariant-loop-loaded : goal.invariant-loop-loaded
invariant-loop-loaded g l = record { number : l.space.number ≡ 3; spare : HasSpare l.space l.spare.items }
