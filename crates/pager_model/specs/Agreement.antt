-- What holds of frames and pages together: each frame is in one role, and spaces and frames agree on the resident pages.
use Rattle.std.specs.Prelude.{ℕ, ◌≡◌, ◌+◌, ◌<◌, ◌^◌, ◌⊎◌, Bool, true, false, ◌&&◌, nat_le, nat_lt, if◌then◌else◌, List, count_by, Option, Some, None, IsSome, length}
use Rattle.pager_model.specs.Options.{is_that}
use Rattle.pager_model.specs.declared.entry.Entry.{Entry}
use Rattle.pager_model.specs.declared.reservation.Reservation.{Reservation}
use Rattle.pager_model.specs.FrameStates.{FrameState, layout_of, used_at, held_by, claim_in, frame_of, HasNothing}
use Rattle.pager_model.specs.Layouts.{is_free}
use Rattle.pager_model.specs.Legal.{space_at, frames_at}
use Rattle.pager_model.specs.declared.entry.Victim.{Victim}
use Rattle.pager_model.specs.Order.{Doing, victim_in, is_holding}
use Rattle.pager_model.specs.Settings.{Given}

-- the frame is a place of the reservation, used or not
abbrev pub has_frame : ℕ → Option Reservation → Bool
has_frame frame None = false
has_frame frame (Some r) = nat_le r.frame frame && nat_lt frame (r.frame + 8 ^ r.size)

-- in how many roles a frame is: free, a place of a reservation, held by a processor
abbrev pub roles : FrameState → ℕ → ℕ
roles st frame = (if is_free (layout_of st) frame then 1 else 0) + count_by (has_frame frame) st.records + count_by (is_that frame) st.held

-- each frame is exactly one of free, a place of one reservation, and held by one processor; and a used place is a place
abbrev pub IsPartition : ℕ → FrameState → Type 0
IsPartition frames st =
    (frame : ℕ) → frame < frames → (roles st frame ≡ 1) × (IsSome (used_at st frame) → count_by (has_frame frame) st.records ≡ 1)

-- no processor holds a frame, and none claims one
pub record NothingHeld (st : FrameState) : Type 0 where
  pub none_held : (processor : ℕ) → held_by st processor ≡ None
  pub none_claimed : (frame : ℕ) → claim_in (used_at st frame) ≡ None

-- The processor claims the victim's frame, as the used place of the victim's page, or holds it.
pub record ClaimsOrHolds (st : FrameState) (processor : ℕ) (victim : Victim) : Type 0 where
  pub frame : (held_by st processor ≡ Some victim.frame) ⊎ ((claim_in (used_at st victim.frame) ≡ Some processor)
      × (frame_of st victim.space victim.page ≡ Some victim.frame))

abbrev pub OwnsVictim : FrameState → ℕ → Bool → Option Victim → Type 0
OwnsVictim st processor holding None = HasNothing st processor
OwnsVictim st processor true (Some victim) = held_by st processor ≡ Some victim.frame
OwnsVictim st processor false (Some victim) = ClaimsOrHolds st processor victim

-- What the place in a processor's order says of its frame: where it is to claim or hold one it does, and elsewhere it does neither.
abbrev pub OwnsBy : FrameState → ℕ → Doing → Type 0
OwnsBy st processor doing = OwnsVictim st processor (is_holding doing) (victim_in doing)

-- page by page, the frame of a resident page is the used place of the page
abbrev pub Agrees : Given → List Entry → Type 0
Agrees g history = (s page : ℕ) → s < length g.told → (space_at g history s).base page ≡ frame_of (frames_at g history) s page
