use Rattle.std.proofs.Common.{◌≡◌, suc, ◌+◌, ◌-◌, ◌*◌, ◌≤◌, Some}
use Rattle.tiles.specs.TableEntries.{entry_at}
use Rattle.tiles.specs.Kept.{AreTilesBut, MapsAlike}
use Rattle.tiles.proofs.entries.join_up.Given as goal

-- the entry so far is the page's
abbrev pub invariant-loop-entry : goal.invariant-loop-entry
invariant-loop-entry g l = record {
  there : entry_at l.map l.page ≡ Some l.entry;
  tiles : AreTilesBut l.map l.page (suc l.entry.extent.size);
  pages : MapsAlike l.fn.map l.map;
  cost : l.steps + 16 * l.fn.entry.extent.size ≤ l.fn.steps + 16 * l.entry.extent.size;
}

abbrev pub decreases-loop-entry : goal.decreases-loop-entry
decreases-loop-entry g l = 3 - l.entry.extent.size
