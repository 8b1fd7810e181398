use Rattle.std.proofs.Common.{◌≡◌, length}
use Rattle.pool_tests.proofs.tests.reserved.add_all.Given as goal

abbrev pub invariant-loop-row : goal.invariant-loop-row
invariant-loop-row g l = length l.kept.records ≡ 1024
