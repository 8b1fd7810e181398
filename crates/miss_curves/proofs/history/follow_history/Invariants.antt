use Rattle.std.proofs.Common.{◌≡◌, ◌≤◌, [], take}
use Rattle.pager_model.specs.Legal.{entries_in}
use Rattle.pager_model.specs.Settings.{Given}
use Rattle.miss_curves.specs.Histories.{EachComes, StandsFor}
use Rattle.miss_curves.proofs.history.follow_history.Given as goal

abbrev pub invariant-loop-place : goal.invariant-loop-place
invariant-loop-place l = record {
  entries : l.counting.rows.entries ≤ l.place;
  places : l.counting.rows.places ≡ l.fn.counting.rows.places;
  stands : (g : Given) → StandsFor l.fn.counting g [] → EachComes g (entries_in l.history.items)
      → StandsFor l.counting g (entries_in (take l.place l.history.items));
}
