use Rattle.std.proofs.Common.{◌≡◌, length}
use Rattle.space_tests.proofs.tests.images.go_all.Given as goal

abbrev pub invariant-loop-row : goal.invariant-loop-row
invariant-loop-row g l = length l.images ≡ 3
