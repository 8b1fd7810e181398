-- What a `RealSource` is to a caller, to whom it tells none of its bytes.
use Rattle.std.specs.Prelude.{ℕ}

pub record ReaderState : Type 0 where
  -- how many reads there were
  pub reads : ℕ
  -- how many of them failed
  pub faults : ℕ
