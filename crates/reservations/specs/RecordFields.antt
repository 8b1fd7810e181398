-- A record of a frame, by what is kept of it.
use Rattle.std.specs.Prelude.{ℕ, ◌≡◌, ◌≤◌, Bool, false, if◌then◌else◌, Option, Some, None}
use Rattle.pager_model.specs.declared.reservation.Reservation.{Reservation}

-- the reservation that begins at the frame, where one does
abbrev pub record_in : Bool → ℕ → ℕ → ℕ → ℕ → ℕ → Option Reservation
record_in begins space first level frame stamp =
    if begins then Some (record { space = space; first = first; size = level; frame = frame; stamp = stamp }) else None

-- the level is one of the four; where none begins, all else is zero, so that a record is known by what it tells
pub record IsPlain (begins : Bool) (space first level frame stamp : ℕ) : Type 0 where
  pub small : level ≤ 3
  pub space_zero : begins ≡ false → space ≡ 0
  pub first_zero : begins ≡ false → first ≡ 0
  pub level_zero : begins ≡ false → level ≡ 0
  pub frame_zero : begins ≡ false → frame ≡ 0
  pub stamp_zero : begins ≡ false → stamp ≡ 0
