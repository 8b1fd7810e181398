use Rattle.std.proofs.Common.{ℕ, ◌≡◌, ◌≤◌, true, List}
use Rattle.pager_model.specs.declared.entry.Entry.{Entry}
use Rattle.pager_model.specs.Legal.{frames_at}
use Rattle.pager_model.specs.Settings.{Given}
use Rattle.flight_core.specs.Lacking.{NeverLacks}
use Rattle.flight_core.specs.Rows.{row_of}
use Rattle.flight_core.specs.Flying.{IsHere}
use Rattle.pager_core.proofs.SilentSteps.{HasPassed}
use Rattle.pager_core.proofs.machine.make_entry.Given as goal

abbrev pub invariant-loop : goal.invariant-loop
invariant-loop g l = record {
  passed : (s : Given) (h : List Entry) (before : ℕ) → g.L.Log.stands l.fn.log s h → IsHere s h before l.fn.space l.fn.flight
      → l.fn.pool ≡ frames_at s h → HasPassed g.L.Log.stands s h before l.log l.fn.flight l.flight l.fn.space l.space l.pool;
  takes : (e : Entry) → g.L.Log.takes l.log e;
  room : (row_of l.flight).entries ≤ g.L.Log.room l.log;
  same_room : g.L.Log.room l.log ≡ g.L.Log.room l.fn.log;
  lasting : g.S.Store.lasts ≡ true → NeverLacks l.fn.flight.phase l.flight.phase;
}

abbrev pub decreases-loop : goal.decreases-loop
decreases-loop g l = (row_of l.flight).steps
