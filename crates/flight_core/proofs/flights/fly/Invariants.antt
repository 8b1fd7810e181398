use Rattle.std.proofs.Common.{ℕ, ◌≡◌, ◌≤◌, true, List}
use Rattle.pager_model.specs.declared.entry.Entry.{Entry}
use Rattle.pager_model.specs.Settings.{Given}
use Rattle.flight_core.specs.Flying.{since}
use Rattle.flight_core.specs.Lacking.{NeverLacks}
use Rattle.flight_core.specs.Rows.{row_of}
use Rattle.flight_core.specs.Whole.{AreAt, WentOn}
use Rattle.flight_core.proofs.flights.fly.Given as goal

abbrev pub invariant-loop-log : goal.invariant-loop-log
invariant-loop-log g l =
    record {
      went : (s : Given) (h : List Entry) (before : ℕ) → g.L.Log.stands l.fn.log s h → AreAt s h before l.fn.spaces.items l.fn.pool l.fn.flight
          → WentOn g.L.Log.stands (since s h before) l.log l.fn.flight l.flight l.spaces.items l.pool;
      grown : (from : g.row.L.Denot) → g.L.Log.grown from l.fn.log → g.L.Log.grown from l.log;
      takes : (e : Entry) → g.L.Log.takes l.log e;
      room : (row_of l.flight).entries ≤ g.L.Log.room l.log;
      lasting : g.S.Store.lasts ≡ true → NeverLacks l.fn.flight.phase l.flight.phase;
    }

abbrev pub decreases-loop-log : goal.decreases-loop-log
decreases-loop-log g l = (row_of l.flight).steps
