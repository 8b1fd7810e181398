-- The lists by age of a layout.
use Rattle.std.specs.Prelude.{ℕ, ◌≡◌, ◌<◌, Bool, List, Option}
use Rattle.pager_model.specs.declared.reservation.Reservation.{Reservation}
use Rattle.pager_model.specs.Ages.{Lists, list_at}
use Rattle.pager_model.specs.Layouts.{list_of}
use Rattle.pager_model.specs.SizeSets.{SizeSet}

-- the three lists are those of these reservations
abbrev pub AreListed : SizeSet → Lists → List Bool → List (Option Reservation) → Type 0
AreListed z lists used records = (k : ℕ) → k < 3 → list_at lists k ≡ list_of z used k records
