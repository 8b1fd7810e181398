use Rattle.std.proofs.Common.{◌≡◌, ◌⊎◌, ℕ, ◌+◌, ◌<◌, ◌≤◌, slice_index}
use Rattle.tiles.proofs.levels.set_eight.Given as goal

-- those so far are written
abbrev pub invariant-loop-i : goal.invariant-loop-i
invariant-loop-i l = record {
  eight : (k : ℕ) → k < l.i → slice_index l.levels (l.first + k) ≡ slice_index l.eight k;
  others : (k : ℕ) → (k < l.first ⊎ l.first + 8 ≤ k) → slice_index l.levels k ≡ slice_index l.fn.levels k;
}
