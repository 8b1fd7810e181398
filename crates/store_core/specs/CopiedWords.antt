-- The words that a read gave.
use Rattle.std.specs.Prelude.{ℕ, List}
use Rattle.pager_model.specs.Stored.{zero_words}
use Rattle.store_core.specs.declared.store.Copied.{Copied}
use Rattle.store_core.specs.declared.store.Copied.TheVariants.{Words, Zeros}

-- the copy that a read told of: the words that were handed in, as they are afterwards, or zero words
abbrev pub copied_words : Copied → List ℕ → List ℕ
copied_words Words words = words
copied_words Zeros words = zero_words
