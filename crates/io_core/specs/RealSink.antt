-- What a `RealSink` is to a caller, to whom it tells none of its bytes.
use Rattle.std.specs.Prelude.{ℕ}

pub record WriterState : Type 0 where
  -- how many writes there were
  pub writes : ℕ
  -- how many of them failed
  pub faults : ℕ
