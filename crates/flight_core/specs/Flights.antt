-- What stands in a space while a flight goes on in it.
use Rattle.std.specs.Prelude.{ℕ, ◌≡◌, ◌<◌, ◌≤◌, ◌⊎◌, Bool, true, false, Option, Some, None, IsSome}
use Rattle.pager_model.specs.declared.entry.Victim.{Victim}
use Rattle.pager_model.specs.declared.call.Call.{Call}
use Rattle.pager_model.specs.declared.call.Call.TheVariants.{Evict as EvictCall}
use Rattle.pager_model.specs.declared.entry.Want.{Want}
use Rattle.pager_model.specs.Flat.{space_of_call}
use Rattle.pager_model.specs.Order.{is_access}
use Rattle.pager_model.specs.PreferredSize.{IsWanted}
use Rattle.pager_model.specs.Regions.{wanted}
use Rattle.pager_model.specs.SpaceStates.{SpaceState, Anyone, access_page}
use Rattle.space_core.specs.Beginning.{AreAbsent, IsToClear, IsToPin, IsEvicting, NeedsNoFrame}
use Rattle.space_core.specs.Standing.{Kept, StandsFor, IsResting, MustWrite, range_of, frame_at, dirty_at, is_allowed, copied_page, CanBegin}
use Rattle.flight_core.specs.declared.flight.Flight.{Flight}
use Rattle.flight_core.specs.declared.flight.Phase.{Phase}
use Rattle.flight_core.specs.declared.flight.Phase.TheVariants.{Start, Evict, Clear, Pin, Busy, Gone, Frame, Short, Fill, Unfill, Out, Write, Hand, Unclaim, Back, Drop, Late, Use, Fault, Lack, Look, Rested, Ended}
use Rattle.flight_core.specs.declared.flight.Purpose.{Purpose}
use Rattle.flight_core.specs.declared.flight.Purpose.TheVariants.{Call as OfCall, Turn as OfTurn}
use Rattle.flight_core.specs.Rows.{call_in, claimed_in, pins, row_of, space_under}
use Rattle.pager_model.specs.Bounds.{space_pages}

-- a load or a store at this page, which the rights of the page allow
pub record IsLawfulAt (call : Call) (kept : Kept) (page : ℕ) : Type 0 where
  pub page_is : access_page call ≡ Some page
  pub in_space : page < space_pages
  pub allowed : is_allowed kept call ≡ true

-- its page isn't resident
pub record LacksFrame (call : Call) (kept : Kept) (page : ℕ) : Type 0 where
  pub lawful : IsLawfulAt call kept page
  pub resting : IsResting kept
  pub absent : frame_at kept page ≡ None

-- its page isn't resident, and its region wants a frame for it so
pub record WantsFrame (call : Call) (kept : Kept) (page : ℕ) (want : Want) : Type 0 where
  pub lacks : LacksFrame call kept page
  pub wanted : wanted kept.regions page ≡ Some want
  pub for_page : IsWanted want page

-- its page has this frame, and isn't read in
pub record HasFrame (call : Call) (kept : Kept) (page frame : ℕ) : Type 0 where
  pub lawful : IsLawfulAt call kept page
  pub pending : kept.pending ≡ Some page
  pub none_clearing : kept.clearing ≡ None
  pub none_paged : kept.paged ≡ None
  pub resident : frame_at kept page ≡ Some frame

-- its page has this frame, could not be read in, and is clean
pub record CannotFill (call : Call) (kept : Kept) (page frame : ℕ) : Type 0 where
  pub has : HasFrame call kept page frame
  pub clean : dirty_at kept page ≡ false

-- it needs this range cleared, whose pages are to give their frames up
pub record WillClear (call : Call) (kept : Kept) (first len : ℕ) : Type 0 where
  pub clears : IsToClear kept call first len
  pub resting : IsResting kept

-- it needed this range cleared, and so it is
pub record HasCleared (call : Call) (kept : Kept) (first len : ℕ) : Type 0 where
  pub clears : IsToClear kept call first len
  pub none_pending : kept.pending ≡ None
  pub none_paged : kept.paged ≡ None
  pub clearing : kept.clearing ≡ Some (range_of first len)
  pub none : AreAbsent kept first len

-- It pins the region of this range, or leaves it pinned no longer. Before the range's frames are wired, or are no longer, and after it the
-- space is the same: the region changes with the answer.
pub record WillPin (call : Call) (kept : Kept) (first len : ℕ) (wired : Bool) : Type 0 where
  pub pinning : IsToPin kept call first len wired
  pub resting : IsResting kept

-- what its range was needed for was done: it is pinned, or is no longer, or is cleared
abbrev pub IsReadied : Call → Kept → ℕ → ℕ → Option Bool → Type 0
IsReadied call kept first len None = HasCleared call kept first len
IsReadied call kept first len (Some wired) = WillPin call kept first len wired

-- it evicts this page, which gives its frame up next
pub record WillEvict (call : Call) (kept : Kept) (page : ℕ) : Type 0 where
  pub is_evict : call ≡ EvictCall kept.number page
  pub evicting : IsEvicting kept page

-- no page of this access is resident, whichever page it is
abbrev pub LacksItsFrame : Call → Kept → Type 0
LacksItsFrame call kept = (page : ℕ) × LacksFrame call kept page

-- the victim's page has its frame
pub record HasVictim (kept : Kept) (v : Victim) : Type 0 where
  pub resting : IsResting kept
  pub place : frame_at kept v.page ≡ Some v.frame

-- the victim's page is equal to its copy
pub record IsEmptied (kept : Kept) (v : Victim) : Type 0 where
  pub has : HasVictim kept v
  pub clean : dirty_at kept v.page ≡ false

-- the victim's page could not be written to its copy
pub record IsUnwritten (kept : Kept) (v : Victim) : Type 0 where
  pub has : HasVictim kept v
  pub dirty : dirty_at kept v.page ≡ true

-- the access needs no frame any more: it isn't allowed now, or its page is resident
pub record IsServable (call : Call) (kept : Kept) : Type 0 where
  pub resting : IsResting kept
  pub needs_none : NeedsNoFrame kept call

-- its store failed: where the call is a sync or an evict, its page stays dirty
pub record HasFaulted (call : Call) (kept : Kept) : Type 0 where
  pub resting : IsResting kept
  pub must : (page : ℕ) → copied_page call ≡ Some page → MustWrite kept call page

-- what the steps so far found in the space, and what still stands there
abbrev pub PhaseStands : Call → Kept → Phase → Type 0
PhaseStands call kept Start = IsResting kept
PhaseStands call kept (Evict page) = WillEvict call kept page
PhaseStands call kept (Clear first len) = WillClear call kept first len
PhaseStands call kept (Pin first len wired) = WillPin call kept first len wired
PhaseStands call kept (Busy first len page) = WillPin call kept first len true
PhaseStands call kept (Gone first len) = IsReadied call kept first len (pins call)
PhaseStands call kept (Frame page want) = WantsFrame call kept page want
PhaseStands call kept (Short wired claimed held) = LacksItsFrame call kept
PhaseStands call kept (Fill page frame) = HasFrame call kept page frame
PhaseStands call kept (Unfill page frame count) = CannotFill call kept page frame
PhaseStands call kept (Out v) = IsResting kept
PhaseStands call kept (Write v) = HasVictim kept v
PhaseStands call kept (Hand v) = IsEmptied kept v
PhaseStands call kept (Unclaim v fault) = IsUnwritten kept v
PhaseStands call kept (Back v) = IsResting kept
PhaseStands call kept (Drop v) = IsServable call kept
PhaseStands call kept Late = IsServable call kept
PhaseStands call kept (Use page want v) = WantsFrame call kept page want
PhaseStands call kept (Fault space count) = HasFaulted call kept
PhaseStands call kept (Lack space) = IsResting kept
PhaseStands call kept Look = IsResting kept
PhaseStands call kept Rested = IsResting kept
PhaseStands call kept (Ended reply) = IsResting kept

-- What a phase says of its call, whatever the space: at the start, and where a frame is to be taken, none was claimed; only a load or a store
-- goes on in another space than its own; and beside them only a sync or an evict meets its store's fault.
abbrev pub PhaseFits : Purpose → Phase → Type 0
PhaseFits purpose Start = claimed_in purpose ≡ false
PhaseFits purpose (Frame page want) = claimed_in purpose ≡ false
PhaseFits purpose (Out v) = is_access (call_in purpose) ≡ true
PhaseFits purpose (Write v) = is_access (call_in purpose) ≡ true
PhaseFits purpose (Hand v) = is_access (call_in purpose) ≡ true
PhaseFits purpose (Unclaim v fault) = is_access (call_in purpose) ≡ true
PhaseFits purpose (Back v) = is_access (call_in purpose) ≡ true
PhaseFits purpose (Drop v) = is_access (call_in purpose) ≡ true
PhaseFits purpose Late = is_access (call_in purpose) ≡ true
PhaseFits purpose (Use page want v) = is_access (call_in purpose) ≡ true
PhaseFits purpose (Fault space count) =
    ((space ≡ space_of_call (call_in purpose)) × IsSome (copied_page (call_in purpose))) ⊎ (is_access (call_in purpose) ≡ true)
PhaseFits purpose (Lack space) = is_access (call_in purpose) ≡ true
PhaseFits purpose phase = Unit {0}

-- a phase that only a turn of a daemon is in
abbrev pub is_of_turns : Phase → Bool
is_of_turns Look = true
is_of_turns Rested = true
is_of_turns phase = false

-- A turn makes at most as many evictions as its mark, which is 1 at least. In the midst of an eviction it has made fewer.
abbrev pub TurnFits : ℕ → ℕ → Phase → Type 0
TurnFits mark evictions Look = (1 ≤ mark) × (evictions ≤ mark)
TurnFits mark evictions (Out v) = evictions < mark
TurnFits mark evictions (Write v) = evictions < mark
TurnFits mark evictions (Hand v) = evictions < mark
TurnFits mark evictions (Unclaim v fault) = evictions < mark
TurnFits mark evictions (Drop v) = evictions < mark
TurnFits mark evictions Rested = 1 ≤ mark
TurnFits mark evictions phase = ⊥

-- the phase is one of calls, or one of turns
abbrev pub IsFor : Purpose → Phase → Type 0
IsFor (OfCall call claimed) phase = is_of_turns phase ≡ false
IsFor (OfTurn mark evictions) phase = TurnFits mark evictions phase

-- the flight is of a call that can be begun, or of a turn, and its phase fits it
pub record Fits (f : Flight) : Type 0 where
  pub kind : IsFor f.purpose f.phase
  pub can : CanBegin (call_in f.purpose)
  pub phase : PhaseFits f.purpose f.phase

-- The space that the flight's next step is made under stands for this state, in which the next entry may be the flight's, and what
-- the flight found there stands.
pub record IsReady (f : Flight) (kept : Kept) (st : SpaceState) : Type 0 where
  pub under : space_under (row_of f).needs ≡ Some kept.number
  pub fits : Fits f
  pub stands : StandsFor kept st
  pub next : st.next ≡ (row_of f).next
  pub found : PhaseStands (call_in f.purpose) kept f.phase

-- A space in which no flight is in the middle of a step: any may enter it.
pub record IsAtRest (kept : Kept) (st : SpaceState) : Type 0 where
  pub resting : IsResting kept
  pub stands : StandsFor kept st
  pub next : st.next ≡ Anyone

-- how a flight leaves a space: ready to go on there where it keeps its lock, and at rest where it doesn't
abbrev pub LeftBy : Option ℕ → Flight → Kept → SpaceState → Type 0
LeftBy None f kept st = Fits f × IsAtRest kept st
LeftBy (Some s) f kept st = (s ≡ kept.number) × IsReady f kept st
