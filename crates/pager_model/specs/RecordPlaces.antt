-- Where the reservations that are kept begin.
use Rattle.std.specs.Prelude.{ℕ, ◌≡◌, ◌≤◌, ◌+◌, ◌^◌, List, length, slice_index_or, Option, Some, None}
use Rattle.pager_model.specs.Extents.{IsExtent}
use Rattle.pager_model.specs.declared.reservation.Reservation.{Reservation}

-- the reservation begins at the frame that names it, and is an extent of known frames with an extent of pages
pub record IsPlaced (frames id : ℕ) (r : Reservation) : Type 0 where
  pub named : r.frame ≡ id
  pub aligned : IsExtent r.size r.frame
  pub within : r.frame + 8 ^ r.size ≤ frames
  pub pages_aligned : IsExtent r.size r.first

-- each record is in its place
abbrev pub ArePlaced : List (Option Reservation) → Type 0
ArePlaced records = (id : ℕ) (r : Reservation) → slice_index_or records id None ≡ Some r → IsPlaced (length records) id r
