use Rattle.std.proofs.Common.{◌≡◌, is_some, length, slice_index}
use Rattle.tiles.specs.KeptEntries.{value_of}
use Rattle.tiles.proofs.EntrySizes.{AreSaid}
use Rattle.tiles.proofs.levels.levels_of_middle.Given as goal

-- what is said of the parts so far, and of pages behind them
abbrev pub invariant-loop-i : goal.invariant-loop-i
invariant-loop-i g l = record {
  eight : length l.levels ≡ 8;
  said : AreSaid l.levels (λ k. is_some (value_of l.parts k)) (slice_index l.said 1) (slice_index l.said 0) l.i;
}
