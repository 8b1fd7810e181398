use Rattle.std.proofs.Common.{◌≡◌, ℕ, ◌+◌, ◌*◌, ◌<◌, ◌≤◌, slice_index}
use Rattle.tiles.specs.TableEntries.{entry_at, entry_size}
use Rattle.tiles.proofs.levels.levels_of_block.Given as goal

-- what is said of the parts so far
abbrev pub invariant-loop-i : goal.invariant-loop-i
invariant-loop-i g l = record {
  levels : (k : ℕ) → k < 8 * l.i → slice_index l.levels k ≡ slice_index l.said (entry_size (entry_at l.tree (l.block * 512 + 8 * k)));
  cost : l.steps ≤ l.fn.steps + 2 + l.i;
}
