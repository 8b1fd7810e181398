use Rattle.std.proofs.Common.{◌≡◌, ℕ, ◌*◌, ◌/◌, ◌%◌, ◌<◌, slice_index}
use Rattle.std.specs.Int.{to_le_bytes, w64}
use Rattle.store_file.proofs.page_bytes.put_words.Given as goal

-- the bytes of the words so far
abbrev pub invariant-loop-index : goal.invariant-loop-index
invariant-loop-index l =
    (at : ℕ) → at < 8 * l.index → slice_index l.bytes at ≡ slice_index (to_le_bytes w64 (slice_index l.words (at / 8))) (at % 8)
