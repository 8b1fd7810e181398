use Rattle.std.proofs.Common.{◌≡◌, suc, ◌+◌, ◌*◌, ◌^◌, ◌<◌, ◌≤◌, Some}
use Rattle.tiles.specs.TableEntries.{entry_at}
use Rattle.tiles.specs.Kept.{AreTilesBut, MapsAlike}
use Rattle.tiles.proofs.entries.split_to.Given as goal

-- the entry so far is the page's
abbrev pub invariant-loop-size : goal.invariant-loop-size
invariant-loop-size g l = record {
  there : entry_at l.map l.page ≡ Some l.entry;
  size : l.size ≤ l.entry.extent.size;
  fits : l.entry.mapping.frame + 8 ^ l.entry.extent.size < 2 ^ 32;
  tiles : AreTilesBut l.map l.page (suc l.entry.extent.size);
  pages : MapsAlike l.fn.map l.map;
  cost : l.steps + 12 * l.entry.extent.size ≤ l.fn.steps + 12 * l.fn.entry.extent.size;
}

abbrev pub decreases-loop-size : goal.decreases-loop-size
decreases-loop-size g l = l.entry.extent.size
