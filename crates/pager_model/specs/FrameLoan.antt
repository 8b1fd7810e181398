-- What becomes of a frame whose words are lent.
use Rattle.std.specs.Prelude.{ℕ, List, ◌++◌, take, drop, length}
use Rattle.std.specs.Borrow.{Lends, MutBor, Fml, Array, u64}
use Rattle.pager_model.specs.Frame.{Framed}
use Rattle.pager_model.specs.contracts.frame.Frame.{the_row}

-- f with these words written over its own, from the first on
abbrev pub with_words : Framed → List ℕ → Framed
with_words f ws = record f { words = take 1024 (ws ++ drop (length ws) f.words) }

-- the frame ends with the last words behind the slice
abbrev pub LendsWords : MutBor Framed → MutBor (List ℕ) → Fml
LendsWords f r = Lends the_row (Array u64 0) f r (with_words f.now)
