-- What finding an extent and placing a page give.
use Rattle.std.specs.Prelude.{ℕ, ◌≡◌, ◌+◌, ◌^◌, ◌<◌, ◌≤◌, true, false, if◌then◌else◌, length, slice_set, Option, Some, None, IsSome}
use Rattle.pager_model.specs.declared.reservation.Reservation.{Reservation}
use Rattle.pager_model.specs.Agreement.{has_frame}
use Rattle.pager_model.specs.Extents.{IsExtent}
use Rattle.pager_model.specs.FreeBlocks.{with_range}
use Rattle.pager_model.specs.Layouts.{Layout, FreeExtent, Placing, frame_for, record_at, extent_of}
use Rattle.pager_model.specs.SizeSets.{has_size}
use Rattle.pager_model.specs.Records.{is_used, yield_in}
use Rattle.reservations.specs.Kept.{CoversPage}

-- the reservation stands in the layout, has more than one frame, and isn't full
pub record CanBreak (l : Layout) (r : Reservation) : Type 0 where
  pub stands : record_at l r.frame ≡ Some r
  pub splits : 0 < r.size
  pub yields : IsSome (yield_in l.sizes (is_used l.used) r)

-- the layout without the frames of the extent that was found in it
abbrev pub without_extent : FreeExtent → Layout
without_extent found = record found.layout { free = with_range found.layout.free found.first (8 ^ found.size) false }

-- the layout with one reservation more, whose used place is the page's
abbrev pub with_reservation : Reservation → ℕ → Layout → Layout
with_reservation r page l =
    record l { records = slice_set l.records r.frame (Some r); used = slice_set l.used (frame_for page r) true }

-- The extent is the one that the definition finds: its frames are free no more, and in no reservation yet.
pub record FindsExtent (new : Layout) (finds : Option FreeExtent) (size first broken : ℕ) : Type 0 where
  pub found : FreeExtent
  pub is : finds ≡ Some found
  pub layout : new ≡ without_extent found
  pub same_size : size ≡ found.size
  pub same_first : first ≡ found.first
  pub same_broken : broken ≡ found.broken
  pub few_broken : broken ≤ 1
  pub aligned : IsExtent size first
  pub known : first + 8 ^ size ≤ length new.free
  pub out : (frame id : ℕ) → first ≤ frame → frame < first + 8 ^ size → has_frame frame (record_at new id) ≡ false

-- The page has the place that the definition gives, whose frame was no used place before.
pub record PlacesPage (old new : Layout) (places : Option Placing) (frame broken : ℕ) : Type 0 where
  pub place : Placing
  pub is : places ≡ Some place
  pub layout : new ≡ place.layout
  pub same_frame : frame ≡ place.frame
  pub same_broken : broken ≡ place.broken
  pub few_broken : broken ≤ 1
  pub known : frame < length new.free
  pub unused : is_used old.used frame ≡ false
  pub used : new.used ≡ slice_set old.used frame true

-- the page is the one that the reservation joins to the frame
pub record IsPageAt (r : Reservation) (frame page : ℕ) : Type 0 where
  pub has : CoversPage r page
  pub joined : frame_for page r ≡ frame

-- the extent of a size, where there is the size
abbrev pub extent_there : ℕ → Layout → Option FreeExtent
extent_there size l = if has_size l.sizes size then extent_of size l else None
