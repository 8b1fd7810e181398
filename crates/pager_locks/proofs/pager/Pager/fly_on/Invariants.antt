use Rattle.std.proofs.Common.{◌≡◌, true, None}
use Rattle.flight_core.specs.Lacking.{NeverLacks}
use Rattle.flight_core.specs.Rows.{row_of}
use Rattle.pager_locks.specs.Locked.{Departure, IsFlying}
use Rattle.pager_locks.proofs.pager.Pager.fly_on.Given as goal

abbrev pub invariant-loop-flight : goal.invariant-loop-flight
invariant-loop-flight g l = record {
  some : (from : Departure) × IsFlying g.N.Named.journal from l.flight l.pass;
  flying : (from : Departure) → IsFlying g.N.Named.journal from l.fn.flight l.fn.pass → IsFlying g.N.Named.journal from l.flight l.pass;
  keeps : (row_of l.flight).keeps ≡ None;
  lasting : g.S.Store.lasts ≡ true → NeverLacks l.fn.flight.phase l.flight.phase;
}

abbrev pub decreases-loop-flight : goal.decreases-loop-flight
decreases-loop-flight g l = (row_of l.flight).steps
