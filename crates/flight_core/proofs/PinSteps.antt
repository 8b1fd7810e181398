-- What a call's clearing or pinning says of its row, and the step on both that pins: the frames of a region are wired, or are so no longer,
-- or one of them is claimed.
use Rattle.std.proofs.Common.{◌≡◌, ℕ, Bool, true, false, not, Option, List, [], ◌∷◌, Some, None, refl, ap, sym, subst, ◌∙◌, inl, inr, arith}
use Rattle.std.specs.List.{find}
use Rattle.std.proofs.lemmas.Bool.{and_from, cases_Bool, cond-false, cond-true, eq-eqb}
use Rattle.std.proofs.lemmas.Option.{same_Some}
use Rattle.pager_model.specs.declared.call.Call.{Call}
use Rattle.pager_model.specs.declared.call.Call.TheVariants.{Unmap, Discard, Wire, Unwire}
use Rattle.pager_model.specs.declared.entry.Entry.{Entry}
use Rattle.pager_model.specs.declared.region.Region.{Region}
use Rattle.pager_model.specs.CallEntries.{pin_entry, kept_entry}
use Rattle.pager_model.specs.Flat.{space_of_call}
use Rattle.pager_model.specs.FrameStates.{FrameState, counted, frame_of, lowest_claimed, pin_range}
use Rattle.pager_model.specs.Order.{Progress, is_pinning}
use Rattle.pager_model.specs.Regions.{has_page, in_range, region_at}
use Rattle.pager_model.specs.SpaceStates.{SpaceState, IsRegionOf, MayPin}
use Rattle.space_core.specs.Beginning.{ClearsFor, IsToPin, PinsFor}
use Rattle.space_core.specs.Standing.{Kept}
use Rattle.flight_core.specs.declared.flight.Flight.{Flight}
use Rattle.flight_core.specs.declared.flight.Phase.TheVariants.{Pin, Busy, Gone}
use Rattle.flight_core.specs.Flights.{IsReadied, IsReady, PhaseStands, WillPin}
use Rattle.flight_core.specs.Rows.{call_in, next_readied, pins, readied}
use Rattle.flight_core.specs.Steps.{Makes}
use Rattle.flight_core.proofs.EntrySteps.{Leaves-on, unchanged}
use Rattle.flight_core.proofs.MadeEntries.{made_on_frames}
use Rattle.flight_core.proofs.NextFlights.{keeps_readied}
use Rattle.flight_core.proofs.Purposes.{in_phase, with_phase, same_work, by_ready}
use Rattle.flight_core.proofs.UnchangedSpaces.{unchanged_stands}

-- Regions.

-- the first element that does does
find_does : {X : Type 0} (p : X → Bool) (xs : List X) (x : X) → find p xs ≡ Some x → p x ≡ true
find_does p [] x is = cc
find_does p (y ∷ xs) x is = elim (cases_Bool (p y)) [
  | inl does ↦ ap p (same_Some x y (sym is ∙ cond-true (p y) (Some y) (find p xs) does)) ∙ does
  | inr fails ↦ find_does p xs x (sym (cond-false (p y) (Some y) (find p xs) fails) ∙ is)
]

-- the region that has a page has it
region_at-has : (regions : List Region) (page : ℕ) (r : Region) → region_at regions page ≡ Some r
    → in_range r.first r.length page ≡ true
region_at-has regions page r is = find_does (has_page page) regions r is

-- what is pinned is a region
pub region-pinned : (o : Option Region) (first len : ℕ) (wired : Bool) → MayPin o first len wired → IsRegionOf o first len
region-pinned None first len wired may = may
region-pinned (Some r) first len wired may = (may.0, may.1)

-- the page of a region lies in its range
pub in_region : (regions : List Region) (page first len : ℕ) → IsRegionOf (region_at regions page) first len → in_range first len page ≡ true
in_region regions page first len = by (region_at regions page) refl
  where
    by : (o : Option Region) → region_at regions page ≡ o → IsRegionOf o first len → in_range first len page ≡ true
    by None at is = absurd is
    by (Some r) at is =
        subst (λ n. in_range n len page ≡ true) is.0
        (subst (λ n. in_range r.first n page ≡ true) is.1 (region_at-has regions page r at))

-- Calls.

-- a call that needs a range cleared pins none
pub pins-none : (regions : List Region) (call : Call) (first len : ℕ) → ClearsFor regions call first len → pins call ≡ None
pins-none regions (Unmap space page) first len is = refl
pins-none regions (Discard space page n) first len is = refl
pins-none regions call first len is = absurd is

-- and one that needs one pinned says how
pub pins-some : (regions : List Region) (call : Call) (first len : ℕ) (wired : Bool) → PinsFor regions call first len wired
    → pins call ≡ Some wired
pins-some regions (Wire space page) first len wired is = ap Some (sym is.0)
pins-some regions (Unwire space page) first len wired is = ap Some (sym is.0)
pins-some regions call first len wired is = absurd is

-- it is a call that the order has pin this range
pub is_pinning-for : (regions : List Region) (call : Call) (first len : ℕ) (wired : Bool) → PinsFor regions call first len wired
    → is_pinning (space_of_call call) first len wired call ≡ true
is_pinning-for regions (Wire space page) first len wired is =
    and_from _ _ is.0 (and_from _ _ (eq-eqb space space refl)
    (in_region regions page first len (region-pinned (region_at regions page) first len wired is.1)))
is_pinning-for regions (Unwire space page) first len wired is =
    and_from _ _ (ap not is.0) (and_from _ _ (eq-eqb space space refl)
    (in_region regions page first len (region-pinned (region_at regions page) first len wired is.1)))
is_pinning-for regions call first len wired is = absurd is

-- Pin.

-- the range of a region's pages, to be wired or to be so no longer
module _ (f : Flight) (first len : ℕ) (wired : Bool) (kept : Kept) (st : SpaceState) (before : FrameState) where
  -- their frames are wired, or are so no longer
  Makes-pin :
      IsReady (in_phase f (Pin first len wired)) kept st
      → (wired ≡ true → lowest_claimed before (space_of_call (call_in f.purpose)) first len ≡ None)
      → Makes (in_phase f (Pin first len wired)) (in_phase f (Gone first len)) kept kept st before
      (counted (pin_range before (space_of_call (call_in f.purpose)) first len wired))
      (pin_entry f.processor (space_of_call (call_in f.purpose)) first len wired)
  Makes-pin ready unclaimed =
      let own = space_of_call (call_in f.purpose) in
      let on : own ≡ kept.number = same_Some _ _ ready.under in
      let is : pins (call_in f.purpose) ≡ Some wired =
      pins-some kept.regions (call_in f.purpose) first len wired ready.found.pinning.is_for in
      let e : Entry = pin_entry f.processor own first len wired in
      record {
        entry = made_on_frames (record {
          same_work = same_work f (Pin first len wired) (Gone first len);
          in_order = ap (λ (o : Option Bool). Some (let p : Progress = record { made = f.number; doing = readied own first len o } in p))
              (sym is);
          fewer = omega arith;
          on_way = refl;
          no_answer = refl;
        }) ((own, refl), refl) unclaimed refl;
        space = Leaves-on e (ap Some on) (unchanged kept) ready.next tt
            (subst (λ (o : Option Region). MayPin o first len wired)
            (sym (ap (λ rs. region_at rs first) ready.stands.beside.regions)) ready.found.pinning.may)
            (record {
              fits = record { kind = refl; can = ready.fits.can; phase = tt };
              stands = unchanged_stands kept st e ready.stands refl (λ p. refl) (λ p i. refl) refl refl;
              next = ap (next_readied f.processor first len) (sym is);
              found = subst (IsReadied (call_in f.purpose) kept first len) (sym is) ready.found;
              keeps = inl (keeps_readied (Some own) own first len (pins (call_in f.purpose)) ∙ ap Some on);
            });
      }

  -- one that is to be wired is claimed
  Makes-kept :
      (page frame : ℕ) → IsReady (in_phase f (Pin first len wired)) kept st → wired ≡ true
      → lowest_claimed before (space_of_call (call_in f.purpose)) first len ≡ Some page
      → frame_of before (space_of_call (call_in f.purpose)) page ≡ Some frame
      → Makes (in_phase f (Pin first len wired)) (in_phase f (Busy first len page)) kept kept st before (counted before)
      (kept_entry f.processor (space_of_call (call_in f.purpose)) first len page frame)
  Makes-kept page frame ready to_wire lowest at =
      let own = space_of_call (call_in f.purpose) in
      let on : own ≡ kept.number = same_Some _ _ ready.under in
      let pinning = ready.found.pinning in
      let e : Entry = kept_entry f.processor own first len page frame in
      record {
        entry = made_on_frames (record {
          same_work = same_work f (Pin first len wired) (Busy first len page);
          in_order = refl;
          fewer = omega arith;
          on_way = refl;
          no_answer = refl;
        }) ((own, refl), refl) (lowest, at) refl;
        space = Leaves-on e (ap Some on) (unchanged kept) ready.next tt
            (subst (λ (o : Option Region). IsRegionOf o first len)
            (sym (ap (λ rs. region_at rs first) ready.stands.beside.regions))
            (region-pinned (region_at kept.regions first) first len wired pinning.may))
            (record {
              fits = record { kind = refl; can = ready.fits.can; phase = tt };
              stands = unchanged_stands kept st e ready.stands refl (λ p. refl) (λ p i. refl) refl refl;
              next = refl;
              found = subst (WillPin (call_in f.purpose) kept first len) to_wire ready.found;
              keeps = inl (ap Some on);
            });
      }

-- the flight's space is the call's
pub on_pin : (f : Flight) (first len : ℕ) (wired : Bool) (kept : Kept) (st : SpaceState) → f.phase ≡ Pin first len wired → IsReady f kept st
    → space_of_call (call_in f.purpose) ≡ kept.number
on_pin f first len wired kept st phase =
    by_ready f (Pin first len wired) kept st refl phase (λ g to. space_of_call (call_in f.purpose) ≡ kept.number)
    (λ ready. same_Some _ _ ready.under)

-- what the phase says of the range
pub to_pin : (f : Flight) (first len : ℕ) (wired : Bool) (kept : Kept) (st : SpaceState) → f.phase ≡ Pin first len wired → IsReady f kept st
    → IsToPin kept (call_in f.purpose) first len wired
to_pin f first len wired kept st phase ready =
    let will : WillPin (call_in f.purpose) kept first len wired = subst (PhaseStands (call_in f.purpose) kept) phase ready.found in
    will.pinning

pub range_pinned : (f : Flight) (first len : ℕ) (wired : Bool) (kept : Kept) (before : FrameState) → f.phase ≡ Pin first len wired
    → (wired ≡ true → lowest_claimed before (space_of_call (call_in f.purpose)) first len ≡ None) → (st : SpaceState) → IsReady f kept st
    → Makes f (with_phase f (Gone first len)) kept kept st before
    (counted (pin_range before (space_of_call (call_in f.purpose)) first len wired))
    (pin_entry f.processor (space_of_call (call_in f.purpose)) first len wired)
range_pinned f first len wired kept before phase unclaimed st =
    by_ready f (Pin first len wired) kept st refl phase
    (λ g to. Makes g (to (Gone first len)) kept kept st before
    (counted (pin_range before (space_of_call (call_in f.purpose)) first len wired))
    (pin_entry f.processor (space_of_call (call_in f.purpose)) first len wired))
    (λ ready. Makes-pin f first len wired kept st before ready unclaimed)

pub page_kept : (f : Flight) (first len : ℕ) (wired : Bool) (page frame : ℕ) (kept : Kept) (before : FrameState)
    → f.phase ≡ Pin first len wired → wired ≡ true → lowest_claimed before (space_of_call (call_in f.purpose)) first len ≡ Some page
    → frame_of before (space_of_call (call_in f.purpose)) page ≡ Some frame → (st : SpaceState) → IsReady f kept st
    → Makes f (with_phase f (Busy first len page)) kept kept st before (counted before)
    (kept_entry f.processor (space_of_call (call_in f.purpose)) first len page frame)
page_kept f first len wired page frame kept before phase to_wire lowest at st =
    by_ready f (Pin first len wired) kept st refl phase
    (λ g to. Makes g (to (Busy first len page)) kept kept st before (counted before)
    (kept_entry f.processor (space_of_call (call_in f.purpose)) first len page frame))
    (λ ready. Makes-kept f first len wired kept st before page frame ready to_wire lowest at)
