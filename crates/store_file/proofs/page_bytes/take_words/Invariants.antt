use Rattle.std.proofs.Common.{◌≡◌, ℕ, ◌+◌, ◌*◌, ◌<◌, slice_index, slice_range}
use Rattle.std.specs.Int.{from_le_bytes, w64}
use Rattle.store_file.proofs.page_bytes.take_words.Given as goal

-- the words so far
abbrev pub invariant-loop-index : goal.invariant-loop-index
invariant-loop-index l =
    (i : ℕ) → i < l.index → slice_index l.words i ≡ from_le_bytes w64 (slice_range l.bytes (8 * i) (8 * i + 8))
