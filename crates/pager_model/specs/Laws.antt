-- What every legal history keeps: of the copies of pages, of the frames, and of spaces and frames together.
use Rattle.std.specs.Prelude.{ℕ, ◌≡◌, ◌<◌, ◌⊎◌, Bool, true, false, if◌then◌else◌, List, ◌++◌, length, Option, Some, None}
use Rattle.pager_model.specs.declared.entry.Entry.{Entry}
use Rattle.pager_model.specs.declared.region.Region.{Region}
use Rattle.pager_model.specs.declared.reservation.Reservation.{Reservation}
use Rattle.pager_model.specs.declared.reservation.Used.{Used}
use Rattle.pager_model.specs.Agreement.{IsPartition, NothingHeld, OwnsBy, Agrees, has_frame}
use Rattle.pager_model.specs.Flat.{Flat}
use Rattle.pager_model.specs.FrameStates.{FrameState, layout_of, used_at, held_by, claim_in, frame_of, is_wired_place}
use Rattle.pager_model.specs.Layouts.{Layout, record_at, covers}
use Rattle.pager_model.specs.Legal.{AllWhole, space_at, frames_at, progress_at}
use Rattle.pager_model.specs.Order.{Progress}
use Rattle.pager_model.specs.Records.{is_used}
use Rattle.pager_model.specs.Regions.{in_range, region_at, is_wired}
use Rattle.pager_model.specs.Settings.{Given}
use Rattle.pager_model.specs.SpaceStates.{SpaceState, Next, AfterClear, AfterPin, IsResident}

-- Copies.

-- the page's copy is known, and its words are the page's
pub record EqualsItsCopy (f : Flat) (page : ℕ) : Type 0 where
  pub copy : ℕ → ℕ
  pub known : f.copies page ≡ Some copy
  pub equal : (i : ℕ) → copy i ≡ f.words page i

-- the page is of a range whose pages gave their frames up, and whose unmap or discard comes next
abbrev pub WasCleared : Next → ℕ → Type 0
WasCleared (AfterClear c first len) page = in_range first len page ≡ true
WasCleared next page = ⊥

-- A page that isn't dirty equals its copy; and a dirty page is resident, but for one of a range that is being unmapped or
-- discarded.
pub record KeepsCopies (st : SpaceState) : Type 0 where
  pub clean : (page : ℕ) → st.flat.dirty page ≡ false → EqualsItsCopy st.flat page
  pub dirty : (page : ℕ) → st.flat.dirty page ≡ true → IsResident st.base page ⊎ WasCleared st.next page

-- Frames.

-- the reservation has a used place
pub record HasUsed (l : Layout) (r : Reservation) : Type 0 where
  pub frame : ℕ
  pub place : has_frame frame (Some r) ≡ true
  pub used : is_used l.used frame ≡ true

-- Each frame is in one role; a reservation is named by its first frame and has a used place, and no two of one space have a common page; no two used places are of
-- one age; and a processor claims at most one frame, and holds none while it does.
pub record KeepsFrames (frames : ℕ) (st : FrameState) : Type 0 where
  pub partition : IsPartition frames st
  pub named : (id : ℕ) (r : Reservation) → record_at (layout_of st) id ≡ Some r → r.frame ≡ id
  pub used : (id : ℕ) (r : Reservation) → record_at (layout_of st) id ≡ Some r → HasUsed (layout_of st) r
  pub apart : (id other space page : ℕ) (r q : Reservation) → record_at (layout_of st) id ≡ Some r → record_at (layout_of st) other ≡ Some q
      → covers space page r ≡ true → covers space page q ≡ true → id ≡ other
  pub ages : (frame other : ℕ) (u v : Used) → used_at st frame ≡ Some u → used_at st other ≡ Some v → u.age ≡ v.age → frame ≡ other
  pub one_claim : (frame other c : ℕ) → claim_in (used_at st frame) ≡ Some c → claim_in (used_at st other) ≡ Some c → frame ≡ other
  pub claims_or_holds : (frame c : ℕ) → claim_in (used_at st frame) ≡ Some c → held_by st c ≡ None

-- Wires.

abbrev pub is_wired_in : Option Region → Bool
is_wired_in None = false
is_wired_in (Some r) = is_wired r

-- Whether the used place of a page is wired: as its region is; but between a pin and the next entry of the space, in the pin's range, as
-- the pin said.
abbrev pub is_wired_by : Next → List Region → ℕ → Bool
is_wired_by (AfterPin c first len wired) regions page =
    if in_range first len page then wired else is_wired_in (region_at regions page)
is_wired_by next regions page = is_wired_in (region_at regions page)

-- A used place is wired exactly where its page's region is, or where a pin said so just before; and none is both wired and claimed.
pub record KeepsWires (g : Given) (history : List Entry) : Type 0 where
  pub places : (s page frame : ℕ) → s < length g.told → frame_of (frames_at g history) s page ≡ Some frame
      → is_wired_place (used_at (frames_at g history) frame)
      ≡ is_wired_by (space_at g history s).next (space_at g history s).flat.regions page
  pub unclaimed : (frame : ℕ) → is_wired_place (used_at (frames_at g history) frame) ≡ true
      → claim_in (used_at (frames_at g history) frame) ≡ None

-- All of it, after a history: the laws of copies and of frames; that a processor claims or holds the frame that its place in its order
-- says, and elsewhere none; that spaces and frames agree, on the pages that are wired too; and that nothing is claimed or held where each processor's list is whole.
pub record KeepsLaws (g : Given) (history : List Entry) : Type 0 where
  pub copies : (s : ℕ) → KeepsCopies (space_at g history s)
  pub frames : KeepsFrames g.frames (frames_at g history)
  pub owns : (c : ℕ) (p : Progress) → c < length g.marks → progress_at g history c ≡ Some p → OwnsBy (frames_at g history) c p.doing
  pub agrees : Agrees g history
  pub wires : KeepsWires g history
  pub rest : AllWhole g history → NothingHeld (frames_at g history)

-- so it is at each place of a history, after the entries before it
abbrev pub KeepsLawsAllAlong : Given → List Entry → Type 0
KeepsLawsAllAlong g history = (before after : List Entry) → history ≡ before ++ after → KeepsLaws g before
