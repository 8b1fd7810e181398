-- What holds of the reservations that are kept.
use Rattle.std.specs.Prelude.{ℕ, ◌≡◌, ◌≤◌, ◌<◌, ◌+◌, ◌^◌, ◌⊎◌, ◌↔◌, Bool, true, false, List, length, slice_index_or, slice_set, Option, Some, None, IsSomeAnd}
use Rattle.pager_model.specs.Layouts.{frame_for}
use Rattle.pager_model.specs.Agreement.{has_frame}
use Rattle.pager_model.specs.Records.{Records, is_used}
use Rattle.pager_model.specs.declared.reservation.Reservation.{Reservation}
use Rattle.pager_model.specs.RecordPlaces.{ArePlaced}

-- the reservation that begins at the frame, where one does
abbrev pub reservation_at : Records → ℕ → Option Reservation
reservation_at st frame = slice_index_or st.records frame None

abbrev pub with_record : Records → ℕ → Option Reservation → Records
with_record st frame r = record st { records = slice_set st.records frame r }

abbrev pub with_used : Records → ℕ → Bool → Records
with_used st frame b = record st { used = slice_set st.used frame b }

-- the page is one of the reservation's
abbrev pub CoversPage : Reservation → ℕ → Type 0
CoversPage r page = (r.first ≤ page) × (page < r.first + 8 ^ r.size)

-- the reservation that begins at the frame has the page, at a place that is used or isn't
abbrev pub HasPlace : Records → ℕ → ℕ → Bool → Type 0
HasPlace st id page b = IsSomeAnd (reservation_at st id) (λ r. CoversPage r page × (is_used st.used (frame_for page r) ≡ b))

-- Of each frame outside the gap from low up to high it is noted which reservation has it, and a frame without one is no used
-- place; no reservation has a frame of the gap.
pub record AreNoted (records : List (Option Reservation)) (ids : List (Option ℕ)) (used : List Bool) (low high : ℕ) : Type 0 where
  pub exact : (frame id : ℕ) → (frame < low) ⊎ (high ≤ frame)
      → (slice_index_or ids frame None ≡ Some id) ↔ (has_frame frame (slice_index_or records id None) ≡ true)
  pub idle : (frame : ℕ) → (frame < low) ⊎ (high ≤ frame) → slice_index_or ids frame None ≡ None → is_used used frame ≡ false
  pub gap : (frame id : ℕ) → low ≤ frame → frame < high → has_frame frame (slice_index_or records id None) ≡ true → ⊥

-- the reservations are kept: there is no gap
pub record AreKept (records : List (Option Reservation)) (ids : List (Option ℕ)) (used : List Bool) : Type 0 where
  pub ids_long : length ids ≡ length records
  pub used_long : length used ≡ length records
  pub placed : ArePlaced records
  pub noted : AreNoted records ids used 0 0

-- the value is noted at the count frames from first on, and nothing else changes
pub record IsFilled (old new : List (Option ℕ)) (first count : ℕ) (value : Option ℕ) : Type 0 where
  pub inside : (frame : ℕ) → first ≤ frame → frame < first + count → slice_index_or new frame None ≡ value
  pub outside : (frame : ℕ) → (frame < first) ⊎ (first + count ≤ frame) → slice_index_or new frame None ≡ slice_index_or old frame None

-- the first frame of a reservation
abbrev pub first_frame : Option Reservation → Option ℕ
first_frame None = None
first_frame (Some r) = Some r.frame
