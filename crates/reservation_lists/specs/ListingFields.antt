-- What list has a reservation, by what is kept of it.
use Rattle.std.specs.Prelude.{ℕ, ◌≡◌, ◌≤◌, Bool, false, if◌then◌else◌, Option, Some, None}
use Rattle.reservation_lists.specs.declared.listed.Listed.{Listed}

-- the list and the stamp, where one has it
abbrev pub listing_in : Bool → ℕ → ℕ → Option Listed
listing_in is_listed level stamp = if is_listed then Some (record { size = level; stamp = stamp }) else None

-- the level is one of the four; where no list has it, all else is zero, so that a listing is known by what it tells
pub record IsPlain (is_listed : Bool) (level stamp : ℕ) : Type 0 where
  pub small : level ≤ 3
  pub level_zero : is_listed ≡ false → level ≡ 0
  pub stamp_zero : is_listed ≡ false → stamp ≡ 0
