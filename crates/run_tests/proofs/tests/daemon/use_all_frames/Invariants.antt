use Rattle.std.proofs.Common.{◌-◌}
use Rattle.run_tests.specs.Calling.{MayMakeCalls}
use Rattle.run_tests.proofs.tests.daemon.use_all_frames.Given as goal

abbrev pub invariant-loop-page : goal.invariant-loop-page
invariant-loop-page g l = MayMakeCalls g.N.Named.journal l.pass (512 - l.page)
