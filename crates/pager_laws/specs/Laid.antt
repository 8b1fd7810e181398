-- What every layout of the frames keeps, and what every state of the frames keeps beside it.
use Rattle.std.specs.Prelude.{ℕ, ◌≡◌, ◌<◌, ◌⊎◌, true, false, length, Some, None}
use Rattle.pager_model.specs.declared.reservation.Reservation.{Reservation}
use Rattle.pager_model.specs.declared.reservation.Used.{Used}
use Rattle.pager_model.specs.Agreement.{has_frame}
use Rattle.pager_model.specs.FrameStates.{FrameState, layout_of, used_at, held_by, claim_in, is_wired_place}
use Rattle.pager_model.specs.Layouts.{Layout, covers, record_at, is_free}
use Rattle.pager_model.specs.Records.{is_used}
use Rattle.pager_model.specs.RecordPlaces.{ArePlaced}

-- the frame is free, or a place of a reservation
abbrev pub IsIn : Layout → ℕ → Type 0
IsIn l frame = (is_free l frame ≡ true) ⊎ ((id : ℕ) × (has_frame frame (record_at l id) ≡ true))

pub record IsLaid (l : Layout) : Type 0 where
  pub records_long : length l.records ≡ length l.free
  pub used_long : length l.used ≡ length l.free
  -- each reservation begins at the frame that it is kept at, is an extent of frames and of pages, and has known frames
  pub placed : ArePlaced l.records
  -- no frame is a place of two reservations
  pub apart : (frame id other : ℕ) → has_frame frame (record_at l id) ≡ true → has_frame frame (record_at l other) ≡ true → id ≡ other
  -- no place is free
  pub not_free : (frame id : ℕ) → is_free l frame ≡ true → has_frame frame (record_at l id) ≡ true → ⊥
  -- a used place is a place of a reservation
  pub places : (frame : ℕ) → is_used l.used frame ≡ true → (id : ℕ) × (has_frame frame (record_at l id) ≡ true)
  -- every reservation has a used place
  pub some_used : (id : ℕ) (r : Reservation) → record_at l id ≡ Some r
      → (frame : ℕ) × (has_frame frame (Some r) ≡ true) × (is_used l.used frame ≡ true)
  -- no page of a space is in two reservations
  pub one_cover : (id other space page : ℕ) (r q : Reservation) → record_at l id ≡ Some r → record_at l other ≡ Some q
      → covers space page r ≡ true → covers space page q ≡ true → id ≡ other

-- What every state of the frames keeps: each frame is free, a place of one reservation, or held by one processor; every
-- reservation has a used place, and no page of a space is in two; ages differ; no processor claims or holds two frames, and none a wired one.
pub record IsSound (frames processors : ℕ) (st : FrameState) : Type 0 where
  pub known : length st.free ≡ frames
  pub processors_known : length st.held ≡ processors
  pub laid : IsLaid (layout_of st)
  pub accounted : (frame : ℕ) → frame < frames → IsIn (layout_of st) frame ⊎ ((c : ℕ) × (held_by st c ≡ Some frame))
  pub held_apart : (c frame : ℕ) → held_by st c ≡ Some frame → (frame < frames) × (IsIn (layout_of st) frame → ⊥)
  pub held_once : (c other frame : ℕ) → held_by st c ≡ Some frame → held_by st other ≡ Some frame → c ≡ other
  -- ages are of earlier entries, and differ
  pub ages_past : (frame : ℕ) (u : Used) → used_at st frame ≡ Some u → u.age < st.entries
  pub ages_differ : (frame other : ℕ) (u v : Used) → used_at st frame ≡ Some u → used_at st other ≡ Some v → u.age ≡ v.age → frame ≡ other
  -- a processor that claims a frame claims no other and holds none
  pub claims_once : (frame other c : ℕ) → claim_in (used_at st frame) ≡ Some c → claim_in (used_at st other) ≡ Some c → frame ≡ other
  pub claims_known : (frame c : ℕ) → claim_in (used_at st frame) ≡ Some c → (c < processors) × (held_by st c ≡ None)
  -- no wired place is claimed
  pub claims_unwired : (frame c : ℕ) → claim_in (used_at st frame) ≡ Some c → is_wired_place (used_at st frame) ≡ false
