use Rattle.std.proofs.Common.{◌≡◌}
use Rattle.pool_tests.proofs.tests.members.go.Given as goal

abbrev pub invariant-loop-step : goal.invariant-loop-step
invariant-loop-step g l = l.lists.frames ≡ 4096
