-- A flight that is of a call, and the phases that it goes through.
use Rattle.std.proofs.Common.{◌≡◌, ℕ, ◌+◌, ◌-◌, ◌*◌, ◌<◌, Bool, true, false, refl, sym, subst, arith}
use Rattle.std.proofs.lemmas.Bool.{false≢true}
use Rattle.pager_model.specs.SpaceStates.{SpaceState}
use Rattle.space_core.specs.Standing.{Kept}
use Rattle.flight_core.specs.declared.flight.Flight.{Flight}
use Rattle.flight_core.specs.declared.flight.Phase.{Phase}
use Rattle.flight_core.specs.declared.flight.Phase.TheVariants.{Out, Write, Hand, Unclaim, Drop, Look, Rested}
use Rattle.flight_core.specs.declared.flight.Purpose.{Purpose}
use Rattle.flight_core.specs.declared.flight.Purpose.TheVariants.{Call as OfCall, Turn as OfTurn}
use Rattle.flight_core.specs.Flights.{IsFor, IsReady}
use Rattle.flight_core.specs.Rows.{call_in, claimed_in, is_of_call, left_by}
use Rattle.flight_core.specs.Steps.{SameWork}

pub of_call-is : (p : Purpose) → is_of_call p ≡ true → p ≡ OfCall (call_in p) (claimed_in p)
of_call-is (OfCall call claimed) is = refl
of_call-is (OfTurn mark evictions) is = absurd (false≢true is)

-- the flight's call in a phase
abbrev pub in_phase : Flight → Phase → Flight
in_phase f phase = record {
  processor = f.processor;
  number = f.number;
  purpose = OfCall (call_in f.purpose) (claimed_in f.purpose);
  phase = phase;
}

-- the flight in another phase
abbrev pub with_phase : Flight → Phase → Flight
with_phase f phase = record { processor = f.processor; number = f.number; purpose = f.purpose; phase = phase }

pub same_kind_of_work : (f : Flight) (from to : Phase) → SameWork (with_phase f from) (with_phase f to)
same_kind_of_work f from to = record { processor = refl; number = refl; same_kind = refl; call = refl; mark = refl }

pub same_work : (f : Flight) (from to : Phase) → SameWork (in_phase f from) (in_phase f to)
same_work f from to = record { processor = refl; number = refl; same_kind = refl; call = refl; mark = refl }

-- a phase that only a call is in
abbrev pub is_of_calls : Phase → Bool
is_of_calls (Out v) = false
is_of_calls (Write v) = false
is_of_calls (Hand v) = false
is_of_calls (Unclaim v fault) = false
is_of_calls (Drop v) = false
is_of_calls Look = false
is_of_calls Rested = false
is_of_calls phase = true

pub of_call-kind : (p : Purpose) (phase : Phase) → is_of_calls phase ≡ true → IsFor p phase → is_of_call p ≡ true
of_call-kind (OfCall call claimed) phase only kind = refl
of_call-kind (OfTurn mark evictions) (Out v) only kind = absurd (false≢true only)
of_call-kind (OfTurn mark evictions) (Write v) only kind = absurd (false≢true only)
of_call-kind (OfTurn mark evictions) (Hand v) only kind = absurd (false≢true only)
of_call-kind (OfTurn mark evictions) (Unclaim v fault) only kind = absurd (false≢true only)
of_call-kind (OfTurn mark evictions) (Drop v) only kind = absurd (false≢true only)
of_call-kind (OfTurn mark evictions) Look only kind = absurd (false≢true only)
of_call-kind (OfTurn mark evictions) Rested only kind = absurd (false≢true only)
of_call-kind (OfTurn mark evictions) phase only kind = absurd kind

-- less is left of a flight where it is less of a call and of an eviction
pub left_by-less : (p : Purpose) (call call' eviction eviction' each : ℕ) → call < call' → eviction < eviction'
    → left_by p call eviction each < left_by p call' eviction' each
left_by-less (OfCall c claimed) call call' eviction eviction' each less less' = less
left_by-less (OfTurn mark evictions) call call' eviction eviction' each less less' =
    let more : ℕ = each * (mark - (evictions + 1)) in omega (arith, less')

-- what holds of the call in the phase that it is in, and where it leads to, holds of the flight
by_phase : (f : Flight) (from : Phase) → is_of_call f.purpose ≡ true → f.phase ≡ from → (P : Flight → (Phase → Flight) → Type 0)
    → P (in_phase f from) (in_phase f) → P f (with_phase f)
by_phase f from of_call is P holds =
    subst (λ p. P (with_phase f p) (with_phase f)) (sym is)
    (subst (λ (u : Purpose). P (record {
      processor = f.processor;
      number = f.number;
      purpose = u;
      phase = from;
    }) (λ phase. record { processor = f.processor; number = f.number; purpose = u; phase = phase }))
    (sym (of_call-is f.purpose of_call)) holds)

-- so it does where the flight is ready, in a phase that only a call is in
pub by_ready : (f : Flight) (from : Phase) (kept : Kept) (st : SpaceState) → is_of_calls from ≡ true → f.phase ≡ from
    → (P : Flight → (Phase → Flight) → Type 0) → (IsReady (in_phase f from) kept st → P (in_phase f from) (in_phase f)) → IsReady f kept st
    → P f (with_phase f)
by_ready f from kept st only is P holds ready =
    by_phase f from (of_call-kind f.purpose from only (subst (IsFor f.purpose) is ready.fits.kind)) is
    (λ g to. IsReady g kept st → P g to) holds ready

-- what holds in the phase that a flight is in, of a call or a turn
pub in_its_phase : (f : Flight) (from : Phase) → f.phase ≡ from → (P : Flight → Type 0) → P (with_phase f from) → P f
in_its_phase f from is P holds = subst (λ p. P (with_phase f p)) (sym is) holds
