-- Counts of faults that rise.
use Rattle.std.proofs.Common.{ℕ, ◌+◌, ◌^◌, inl, inr, arith}
use Rattle.std.proofs.lemmas.Bool.{cases_lt}
use Rattle.io_core.specs.Faults.{one_more, Rose}

-- a count with one more rose
pub rose_by_one : (n : ℕ) → Rose n (one_more n)
rose_by_one n = elim (cases_lt (n + 1) (2 ^ 64)) [
  | inl below ↦ inl (omega (arith, below))
  | inr full ↦ inr (omega (arith, full))
]
