-- What a `MemorySink` is to a caller.
use Rattle.std.specs.Prelude.{ℕ, List}

pub record SinkState : Type 0 where
  -- the bytes that it has, those of the room at its making first
  pub taken : List ℕ
  -- how many more it takes
  pub free : ℕ
  -- the numbers of the writes that fail, counted from 1
  pub failing : List ℕ
  -- how many writes there were
  pub writes : ℕ
  -- how many of them failed
  pub faults : ℕ
