use Rattle.std.proofs.Common.{◌≡◌}
use Rattle.space_tests.specs.Spares.{HasSpare}
use Rattle.space_tests.proofs.tests.space.go_through.Given as goal

abbrev pub invariant-loop-row : goal.invariant-loop-row
invariant-loop-row g l = record { number : l.space.number ≡ 3; spare : HasSpare l.space l.spare.items }
