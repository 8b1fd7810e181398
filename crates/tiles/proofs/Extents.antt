-- Where an extent round a page begins, and how it lies in a larger one.
use Rattle.std.proofs.Common.{◌≡◌, ℕ, zero, suc, ◌+◌, ◌-◌, ◌%◌, ◌^◌, ◌<◌, ◌≤◌, arith}
use Rattle.pager_model.specs.Extents.{extent_start}

-- the first number of an extent by what is left of a division
pub record StartsBelow (k page : ℕ) : Type 0 where
  pub first : extent_start k page ≡ page - page % 8 ^ k
  pub within : page % 8 ^ k ≤ page
  pub short : page % 8 ^ k < 8 ^ k

pub starts_below : (k page : ℕ) → k ≤ 3 → StartsBelow k page
starts_below zero page low = record { first = omega arith; within = omega arith; short = omega arith }
starts_below (suc zero) page low = record { first = omega arith; within = omega arith; short = omega arith }
starts_below (suc (suc zero)) page low = record { first = omega arith; within = omega arith; short = omega arith }
starts_below (suc (suc (suc zero))) page low = record { first = omega arith; within = omega arith; short = omega arith }
starts_below (suc (suc (suc (suc k)))) page low = absurd (omega arith)

-- An extent lies in the one of the next size.
pub record LiesIn (k page by : ℕ) : Type 0 where
  pub moved : extent_start k page ≡ extent_start (suc k) page + by
  pub within : by + 8 ^ k ≤ 8 ^ suc k
  pub aligned : (frame : ℕ) → frame % 8 ^ suc k ≡ 0 → (frame + by) % 8 ^ k ≡ 0

pub lies_in : (k page : ℕ) → suc k ≤ 3 → LiesIn k page (extent_start k page - extent_start (suc k) page)
lies_in zero page low = record { moved = omega arith; within = omega arith; aligned = λ frame at. omega arith }
lies_in (suc zero) page low = record { moved = omega arith; within = omega arith; aligned = λ frame at. omega arith }
lies_in (suc (suc zero)) page low = record { moved = omega arith; within = omega arith; aligned = λ frame at. omega arith }
lies_in (suc (suc (suc k))) page low = absurd (omega arith)
