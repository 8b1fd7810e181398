use Rattle.std.proofs.Common.{◌≡◌, ◌<◌, ℕ, length, slice_index}
use Rattle.tiles.specs.Resident.{mapping_at}
use Rattle.tiles.proofs.CutCounts.{counted_below}
use Rattle.tiles.proofs.base.Base.counts.Given as goal

-- the parts of the tiles of the sizes so far
abbrev pub invariant-loop-level : goal.invariant-loop-level
invariant-loop-level l = record {
  long : length l.counts ≡ 4;
  at : (size : ℕ) → size < 4 → slice_index l.counts size ≡ counted_below l.sizes (mapping_at l.self) size l.level;
}
