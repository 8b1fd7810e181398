-- Which pages the reservations have, as a population map says it.
use Rattle.std.specs.Prelude.{ℕ, ◌≡◌, ◌+◌, ◌^◌, ◌<◌, ◌≤◌, ◌↔◌, true, Bool, List, length, slice_index_or, slice_set, sum_by, Option, Some, None, IsSomeAnd}
use Rattle.population_map.specs.Populations.{Populations, page_at, id_of, placed_pages, space_count, frame_count}
use Rattle.pager_model.specs.declared.reservation.Reservation.{Reservation}
use Rattle.pager_model.specs.Agreement.{has_frame}
use Rattle.pager_model.specs.FrameStates.{places_in}
use Rattle.pager_model.specs.Layouts.{covers}
use Rattle.pager_model.specs.Records.{split_records}
use Rattle.pager_model.specs.RecordPlaces.{IsPlaced}
use Rattle.reservations.specs.declared.part.Part.{Part}
use Rattle.reservations.specs.Parts.{told_parts}
use Rattle.pager_model.specs.Bounds.{space_pages, most_spaces}

-- The extent of size k round a page is placed with an id exactly where the reservation that begins at this frame is of this size and has
-- the page. The map knows every space that a reservation is of. There is room to place a page for each frame, and no more pages are placed
-- than the reservations have places.
pub record IsMapped (m : Populations) (records : List (Option Reservation)) : Type 0 where
  pub spaces : space_count m ≡ most_spaces
  pub exact : (space page k id : ℕ) → space < most_spaces → page < space_pages → k ≤ 3
      → (id_of m k (page_at space page) ≡ Some id) ↔ IsSomeAnd (slice_index_or records id None)
      (λ r. (r.size ≡ k) × (covers space page r ≡ true))
  pub pages : (id : ℕ) (r : Reservation) → slice_index_or records id None ≡ Some r → (r.space < most_spaces) × (r.first < space_pages)
  pub room : frame_count m ≡ length records
  pub few : placed_pages m ≤ sum_by places_in records

-- no page of a space is in two reservations
abbrev pub OneCovers : List (Option Reservation) → Type 0
OneCovers records = (id other space page : ℕ) (r q : Reservation) → slice_index_or records id None ≡ Some r
    → slice_index_or records other None ≡ Some q
    → covers space page r ≡ true → covers space page q ≡ true → id ≡ other

-- A reservation of known frames, spaces and pages may come into these records: none of them begins at a frame of it or has a page of it, and
-- with it they have no more places than there are frames.
pub record MayEnter (records : List (Option Reservation)) (r : Reservation) : Type 0 where
  pub placed : IsPlaced (length records) r.frame r
  pub known : r.space < most_spaces
  pub within : r.first < space_pages
  pub none : (frame : ℕ) → has_frame frame (Some r) ≡ true → slice_index_or records frame None ≡ None
  pub apart : (id page : ℕ) (q : Reservation) → slice_index_or records id None ≡ Some q → covers r.space page r ≡ true
      → covers r.space page q ≡ true → ⊥
  pub few : sum_by places_in records + 8 ^ r.size ≤ length records

-- From records that the reservation may come into, and that this map has with it, the reservation was split. These are the parts and the
-- records afterwards.
pub record WasSplitFrom (m : Populations) (after : List (Option Reservation)) (told : List Part) (whole : Reservation) : Type 0 where
  pub records : List (Option Reservation)
  pub used : ℕ → Bool
  pub mapped : IsMapped m (slice_set records whole.frame (Some whole))
  pub enters : MayEnter records whole
  pub parts : told ≡ told_parts used whole
  pub split : after ≡ split_records used whole records
