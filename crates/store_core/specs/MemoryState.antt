-- What a `MemoryStore` is to a caller.
use Rattle.std.specs.Prelude.{ℕ, ◌+◌, ◌-◌, ◌^◌, true, ◌==◌, min, List, length, map, Option, Some}
use Rattle.pager_model.specs.Stored.{Copy, Stored}

-- a count with one more, which stands still at 2^64 - 1
abbrev pub one_more : ℕ → ℕ
one_more n = min (n + 1) (2 ^ 64 - 1)

-- its copies, where it fails, and how often it was called
pub record MemoryState : Type 0 where
  -- the copies of the pages that it keeps
  pub copies : List Copy
  -- the numbers of the reads that fail, counted from 1
  pub failing_reads : List ℕ
  -- the numbers of the writes that fail, counted from 1
  pub failing_writes : List ℕ
  -- how many reads there were
  pub reads : ℕ
  -- how many writes there were, those that found no memory among them
  pub writes : ℕ
  -- how many reads and writes failed, but for those that found no memory
  pub faults : ℕ

-- the copies of the entries of a map from pages to words
abbrev pub copies_of : List (ℕ × Option (List ℕ)) → List Copy
copies_of entries = map (λ e. record { page = e.0; words = e.1 }) entries

-- a backing store that tells these copies and keeps the pages that have one of their own
abbrev pub stored_copies : List Copy → ℕ → Stored
stored_copies copies faults =
    record { tells = true; told = length copies == 0; copies = copies; kept = Some (map (λ c. c.page) copies); faults = faults }

-- a memory store as a backing store
abbrev pub stored_of : MemoryState → Stored
stored_of m = stored_copies m.copies m.faults
