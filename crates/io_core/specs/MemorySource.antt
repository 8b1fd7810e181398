-- What a `MemorySource` is to a caller.
use Rattle.std.specs.Prelude.{ℕ, List}

pub record SourceState : Type 0 where
  -- the bytes that it has left
  pub left : List ℕ
  -- the most bytes that one read gives
  pub piece : ℕ
  -- the numbers of the reads that fail, counted from 1
  pub failing : List ℕ
  -- how many reads there were
  pub reads : ℕ
  -- how many of them failed
  pub faults : ℕ
