-- What becomes of a chunk whose words are lent.
use Rattle.std.specs.Prelude.{ℕ, List, ◌++◌, take, drop, length}
use Rattle.std.specs.Borrow.{Lends, MutBor, Fml, Array, u64}
use Rattle.pager_model.specs.contracts.chunks.Chunk.{the_row}

-- as many words, the first of which are these
abbrev pub with_first : List ℕ → List ℕ → List ℕ
with_first words ws = take (length words) (ws ++ drop (length ws) words)

-- the chunk ends with the last words behind the slice
abbrev pub LendsChunk : MutBor (List ℕ) → MutBor (List ℕ) → Fml
LendsChunk chunk r = Lends the_row (Array u64 0) chunk r (with_first chunk.now)
