-- What a call and a turn do alike with a victim: the phases of an eviction, and what comes after it.
use Rattle.std.proofs.Common.{◌≡◌, ℕ, ◌<◌, Bool, true, false, Option, Some, None, refl, ap, sym, ◌∙◌, arith, inr}
use Rattle.std.proofs.lemmas.Bool.{false≢true}
use Rattle.std.proofs.lemmas.Option.{none-some}
use Rattle.pager_model.specs.declared.entry.Victim.{Victim}
use Rattle.pager_model.specs.Flat.{space_of_call}
use Rattle.pager_model.specs.Order.{Purpose as Claims, Progress, Holding, faulted_for, is_access, lacking_for}
use Rattle.pager_model.specs.SpaceStates.{SpaceState, Anyone}
use Rattle.space_core.specs.Standing.{Kept, IsResting, StandsFor, copied_page}
use Rattle.flight_core.specs.declared.flight.Flight.{Flight}
use Rattle.flight_core.specs.declared.flight.Phase.{Phase}
use Rattle.flight_core.specs.declared.flight.Phase.TheVariants.{Out, Write, Hand, Unclaim, Back, Drop, Fault, Lack}
use Rattle.flight_core.specs.declared.flight.Purpose.{Purpose}
use Rattle.flight_core.specs.declared.flight.Purpose.TheVariants.{Call as OfCall, Turn as OfTurn}
use Rattle.flight_core.specs.Flights.{Fits, IsFor, LeftBy, PhaseFits, TurnFits, is_of_turns}
use Rattle.flight_core.specs.Rows.{access_of, at, call_in, claims_for, faulted, given_up, left_by, row_of, won}
use Rattle.flight_core.proofs.EntrySteps.{LeftBy-left, keeps_own_if}
use Rattle.flight_core.proofs.MadeEntries.{is_on_way}
use Rattle.flight_core.proofs.NextFlights.{copies_none, keeps_faulted}
use Rattle.flight_core.proofs.Purposes.{in_its_phase, with_phase}

-- a phase of an eviction, which is one of a call or of a turn
abbrev pub in_eviction : Phase → Bool
in_eviction (Out v) = true
in_eviction (Write v) = true
in_eviction (Hand v) = true
in_eviction (Unclaim v fault) = true
in_eviction (Drop v) = true
in_eviction phase = false

-- a turn in one has made fewer evictions than its mark
pub fewer_in : (mark evictions : ℕ) (phase : Phase) → in_eviction phase ≡ true → TurnFits mark evictions phase → evictions < mark
fewer_in mark evictions (Out v) in_one fits = fits
fewer_in mark evictions (Write v) in_one fits = fits
fewer_in mark evictions (Hand v) in_one fits = fits
fewer_in mark evictions (Unclaim v fault) in_one fits = fits
fewer_in mark evictions (Drop v) in_one fits = fits
fewer_in mark evictions phase in_one fits = absurd (false≢true in_one)

fits_in : (mark evictions : ℕ) (phase : Phase) → in_eviction phase ≡ true → evictions < mark → TurnFits mark evictions phase
fits_in mark evictions (Out v) in_one fewer = fewer
fits_in mark evictions (Write v) in_one fewer = fewer
fits_in mark evictions (Hand v) in_one fewer = fewer
fits_in mark evictions (Unclaim v fault) in_one fewer = fewer
fits_in mark evictions (Drop v) in_one fewer = fewer
fits_in mark evictions phase in_one fewer = absurd (false≢true in_one)

calls_in : (phase : Phase) → in_eviction phase ≡ true → is_of_turns phase ≡ false
calls_in (Out v) in_one = refl
calls_in (Write v) in_one = refl
calls_in (Hand v) in_one = refl
calls_in (Unclaim v fault) in_one = refl
calls_in (Drop v) in_one = refl
calls_in phase in_one = absurd (false≢true in_one)

kind_on : (p : Purpose) (from to : Phase) → in_eviction from ≡ true → in_eviction to ≡ true → IsFor p from → IsFor p to
kind_on (OfCall call claimed) from to one other kind = calls_in to other
kind_on (OfTurn mark evictions) from to one other kind = fits_in mark evictions to other (fewer_in mark evictions from one kind)

-- from one phase of an eviction to another
pub Fits-on : (f : Flight) (from to : Phase) → in_eviction from ≡ true → in_eviction to ≡ true → Fits (with_phase f from)
    → PhaseFits f.purpose to → Fits (with_phase f to)
Fits-on f from to one other fits phase = record { kind = kind_on f.purpose from to one other fits.kind; can = fits.can; phase = phase }

-- the row of a flight that holds the victim's frame
pub record IsWon (f : Flight) (v : Victim) : Type 0 where
  pub progress : (row_of (with_phase f (won f.purpose v))).progress ≡ at f.number (Holding (claims_for f.purpose) v)
  pub on_way : is_on_way (with_phase f (won f.purpose v)) ≡ true
  pub fewer : (row_of (with_phase f (won f.purpose v))).entries < left_by f.purpose 6 2 4

-- of its parts
abbrev flight_in : ℕ → ℕ → Purpose → Phase → Flight
flight_in c n purpose phase = record { processor = c; number = n; purpose = purpose; phase = phase }

won-row_in : (c n : ℕ) (purpose : Purpose) (v : Victim) (phase : Phase) → IsWon (flight_in c n purpose phase) v
won-row_in c n (OfCall call claimed) v phase = record { progress = refl; on_way = refl; fewer = omega arith }
won-row_in c n (OfTurn mark evictions) v phase = record { progress = refl; on_way = refl; fewer = omega arith }

pub won-row : (f : Flight) (v : Victim) → IsWon f v
won-row f v = won-row_in f.processor f.number f.purpose v f.phase

-- how it leaves the victim's space
LeftBy-won_in :
    (c n : ℕ) (purpose : Purpose) (v : Victim) (now : Kept) (st : SpaceState) (from : Phase) → in_eviction from ≡ true
    → Fits (flight_in c n purpose from) → is_access (call_in purpose) ≡ true → v.space ≡ now.number → IsResting now → StandsFor now st
    → st.next ≡ Anyone
    → LeftBy (row_of (flight_in c n purpose (won purpose v))).keeps (flight_in c n purpose (won purpose v)) now st
LeftBy-won_in c n (OfCall call claimed) v now st from one fits access on resting stands next =
    LeftBy-left (flight_in c n (OfCall call claimed) (Back v)) now st (record {
      fits = record { kind = refl; can = fits.can; phase = access };
      stands = stands;
      next = next;
      found = resting;
      keeps = keeps_own_if (flight_in c n (OfCall call claimed) (Back v)) now (Some (space_of_call call)) v.space refl
          (λ here. on) refl resting;
    })
LeftBy-won_in c n (OfTurn mark evictions) v now st from one fits access on resting stands next = (
  record { kind = fewer_in mark evictions from one fits.kind; can = fits.can; phase = access },
  record { resting = resting; stands = stands; next = next },
)

pub LeftBy-won :
    (f : Flight) (v : Victim) (now : Kept) (st : SpaceState) (from : Phase) → in_eviction from ≡ true → Fits (with_phase f from)
    → is_access (call_in f.purpose) ≡ true → v.space ≡ now.number → IsResting now → StandsFor now st → st.next ≡ Anyone
    → LeftBy (row_of (with_phase f (won f.purpose v))).keeps (with_phase f (won f.purpose v)) now st
LeftBy-won f v = LeftBy-won_in f.processor f.number f.purpose v

-- Where giving a claim up leads.
abbrev pub ended_claim : ℕ → Claims → ℕ → Option ℕ → Option Progress
ended_claim n claims space None = lacking_for n claims space
ended_claim n claims space (Some count) = faulted_for n claims space count

-- the row of a flight that gave its claim up
pub record IsGivenUp (f : Flight) (v : Victim) (fault : Option ℕ) : Type 0 where
  pub progress : ended_claim f.number (claims_for f.purpose) v.space fault
      ≡ Some (row_of (with_phase f (given_up f.purpose v fault))).progress
  pub on_way : is_on_way (with_phase f (given_up f.purpose v fault)) ≡ true
  pub fewer : (row_of (with_phase f (given_up f.purpose v fault))).entries < left_by f.purpose 6 2 4

given_up-row_in : (c n : ℕ) (purpose : Purpose) (v : Victim) (phase : Phase) (fault : Option ℕ) → is_access (call_in purpose) ≡ true
    → IsGivenUp (flight_in c n purpose phase) v fault
given_up-row_in c n (OfCall call claimed) v phase None access = record { progress = refl; on_way = refl; fewer = omega arith }
given_up-row_in c n (OfCall call claimed) v phase (Some count) access = record {
  progress = ap (λ o. Some (at n (faulted (access_of call claimed) v.space count o))) (sym (copies_none call access));
  on_way = refl;
  fewer = omega arith;
}
given_up-row_in c n (OfTurn mark evictions) v phase None access = record { progress = refl; on_way = refl; fewer = omega arith }
given_up-row_in c n (OfTurn mark evictions) v phase (Some count) access = record { progress = refl; on_way = refl; fewer = omega arith }

pub given_up-row : (f : Flight) (v : Victim) (fault : Option ℕ) → is_access (call_in f.purpose) ≡ true → IsGivenUp f v fault
given_up-row f v = given_up-row_in f.processor f.number f.purpose v f.phase

-- and it is nearer to its end
given_up-nearer_in : (c n : ℕ) (purpose : Purpose) (v : Victim) (fault : Option ℕ)
    → (row_of (flight_in c n purpose (given_up purpose v fault))).steps < (row_of (flight_in c n purpose (Unclaim v fault))).steps
given_up-nearer_in c n (OfCall call claimed) v None = omega arith
given_up-nearer_in c n (OfCall call claimed) v (Some count) = omega arith
given_up-nearer_in c n (OfTurn mark evictions) v None = omega arith
given_up-nearer_in c n (OfTurn mark evictions) v (Some count) = omega arith

pub given_up-nearer : (f : Flight) (v : Victim) (fault : Option ℕ) → f.phase ≡ Unclaim v fault
    → (row_of (with_phase f (given_up f.purpose v fault))).steps < (row_of f).steps
given_up-nearer f v fault phase =
    in_its_phase f (Unclaim v fault) phase (λ g. (row_of (with_phase f (given_up f.purpose v fault))).steps < (row_of g).steps)
    (given_up-nearer_in f.processor f.number f.purpose v fault)

-- how it leaves the victim's space
LeftBy-given_up_in :
    (c n : ℕ) (purpose : Purpose) (v : Victim) (fault : Option ℕ) (now : Kept) (st : SpaceState)
    → Fits (flight_in c n purpose (Unclaim v fault)) → v.space ≡ now.number → IsResting now → StandsFor now st → st.next ≡ Anyone
    → LeftBy (row_of (flight_in c n purpose (given_up purpose v fault))).keeps (flight_in c n purpose (given_up purpose v fault)) now st
LeftBy-given_up_in c n (OfCall call claimed) v None now st fits on resting stands next =
    LeftBy-left (flight_in c n (OfCall call claimed) (Lack v.space)) now st (record {
      fits = record { kind = refl; can = fits.can; phase = fits.phase };
      stands = stands;
      next = next;
      found = resting;
      keeps = keeps_own_if (flight_in c n (OfCall call claimed) (Lack v.space)) now (Some (space_of_call call)) v.space refl
          (λ here. on) refl resting;
    })
LeftBy-given_up_in c n (OfCall call claimed) v (Some count) now st fits on resting stands next =
    LeftBy-left (flight_in c n (OfCall call claimed) (Fault v.space count)) now st (record {
      fits = record { kind = refl; can = fits.can; phase = inr fits.phase };
      stands = stands;
      next = next;
      found = record { resting = resting; must = λ page copies. absurd (none-some page (sym (copies_none call fits.phase) ∙ copies)) };
      keeps = keeps_own_if (flight_in c n (OfCall call claimed) (Fault v.space count)) now (Some (space_of_call call)) v.space
          (keeps_faulted (Some (space_of_call call)) (access_of call claimed) v.space count (copied_page call)) (λ here. on) refl resting;
    })
LeftBy-given_up_in c n (OfTurn mark evictions) v fault now st fits on resting stands next = (
  record { kind = (let fewer = fits.kind in omega (arith, fewer)); can = fits.can; phase = tt },
  record { resting = resting; stands = stands; next = next },
)

pub LeftBy-given_up :
    (f : Flight) (v : Victim) (fault : Option ℕ) (now : Kept) (st : SpaceState) → Fits (with_phase f (Unclaim v fault))
    → v.space ≡ now.number → IsResting now → StandsFor now st → st.next ≡ Anyone
    → LeftBy (row_of (with_phase f (given_up f.purpose v fault))).keeps (with_phase f (given_up f.purpose v fault)) now st
LeftBy-given_up f v fault = LeftBy-given_up_in f.processor f.number f.purpose v fault
