-- The lists by age, as they are kept beside a layout.
use Rattle.std.specs.Prelude.{ℕ, ◌≡◌, ◌<◌, ◌≤◌, Bool, true, false, List, Option, Some, None, length, slice_index_or}
use Rattle.pager_model.specs.declared.reservation.Reservation.{Reservation}
use Rattle.pager_model.specs.Ages.{Lists}
use Rattle.pager_model.specs.Layouts.{Layout}
use Rattle.pager_model.specs.Agreement.{has_frame}
use Rattle.pager_model.specs.Records.{Records, is_used, split_records}
use Rattle.pager_model.specs.SizeSets.{SizeSet}
use Rattle.population_map.specs.Populations.{Populations}
use Rattle.reservation_lists.specs.Kept.{KeptLists}
use Rattle.pager_model.specs.RecordPlaces.{IsPlaced, ArePlaced}
use Rattle.pager_laws.specs.Laid.{IsLaid}
use Rattle.frame_pool.specs.Mapped.{IsMapped}
use Rattle.pager_laws.specs.Listed.{AreListed}
use Rattle.pager_model.specs.Bounds.{most_frames}

-- the layout is sound, and the lists and the map are its
pub record IsInOrder (l : Layout) (kept : KeptLists) (map : Populations) : Type 0 where
  pub known : length l.free ≡ kept.frames
  pub few : kept.frames ≤ most_frames
  pub laid : IsLaid l
  pub listed : AreListed l.sizes kept.lists l.used l.records
  pub mapped : IsMapped map l.records

-- the lists are those of these records, of which none begins at the frame
pub record MayBegin (z : SizeSet) (lists : Lists) (used : List Bool) (records : List (Option Reservation)) (id : ℕ) : Type 0 where
  pub none : slice_index_or records id None ≡ None
  pub known : id < length records
  pub listed : AreListed z lists used records

-- From records in which the reservation was none any more, and whose lists these are, the reservation was split.
pub record WasSplit (z : SizeSet) (lists : KeptLists) (after : Records) (whole : Reservation) : Type 0 where
  pub records : List (Option Reservation)
  pub placed : IsPlaced (length records) whole.frame whole
  pub others_placed : ArePlaced records
  pub vacant : (frame id : ℕ) → has_frame frame (Some whole) ≡ true → has_frame frame (slice_index_or records id None) ≡ false
  pub room : lists.frames ≡ length records
  pub split : after.records ≡ split_records (is_used after.used) whole records
  pub listed : AreListed z lists.lists after.used records
