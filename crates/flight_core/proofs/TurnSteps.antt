-- A daemon's turn claims the victim's frame.
use Rattle.std.proofs.Common.{◌≡◌, ℕ, zero, suc, ◌<◌, true, false, Some, None, refl, ap, sym, subst, arith}
use Rattle.std.proofs.lemmas.Bool.{false≢true, lt-ltb}
use Rattle.pager_model.specs.declared.entry.Entry.{Entry}
use Rattle.pager_model.specs.declared.entry.Victim.{Victim}
use Rattle.pager_model.specs.declared.entry.What.TheVariants.{Claim}
use Rattle.pager_model.specs.Agreement.{OwnsBy}
use Rattle.pager_model.specs.FrameStates.{FrameState, HasNothing, IsVictim, MayClaim, claimed, counted, is_short}
use Rattle.pager_model.specs.Order.{ForTurn, Claiming, leads}
use Rattle.flight_core.specs.declared.flight.Flight.{Flight}
use Rattle.flight_core.specs.declared.flight.Phase.{Phase}
use Rattle.flight_core.specs.declared.flight.Phase.TheVariants.{Out, Look}
use Rattle.flight_core.specs.declared.flight.Purpose.{Purpose}
use Rattle.flight_core.specs.declared.flight.Purpose.TheVariants.{Call as OfCall, Turn as OfTurn}
use Rattle.flight_core.specs.Flights.{Fits}
use Rattle.flight_core.specs.Rows.{evictions_in, is_of_call, mark_in, row_of}
use Rattle.flight_core.specs.Steps.{MakesOnFrames}
use Rattle.flight_core.proofs.MadeEntries.{made_on_frames}
use Rattle.flight_core.proofs.Purposes.{with_phase}

-- a flight of a turn
abbrev pub turn : ℕ → ℕ → ℕ → ℕ → Phase → Flight
turn c n mark evictions phase = record { processor = c; number = n; purpose = OfTurn mark evictions; phase = phase }

pub turn-is : (f : Flight) (mark evictions : ℕ) (phase : Phase) → f.purpose ≡ OfTurn mark evictions → f.phase ≡ phase
    → f ≡ turn f.processor f.number mark evictions phase
turn-is f mark evictions phase purpose is = λ i. record { processor = f.processor; number = f.number; purpose = purpose i; phase = is i }

may_claim : (st : FrameState) (mark : ℕ) → 0 < mark → is_short st mark ≡ true → MayClaim st mark
may_claim st zero some short = absurd (omega (arith, some))
may_claim st (suc n) some short = short

of_turn-is : (p : Purpose) → is_of_call p ≡ false → p ≡ OfTurn (mark_in p) (evictions_in p)
of_turn-is (OfCall call claimed) is = absurd (false≢true (sym is))
of_turn-is (OfTurn mark evictions) is = refl

abbrev pub claim_entry : ℕ → Victim → Entry
claim_entry c v = record { processor = c; space = None; frames = true; what = Claim v.space v.page v.frame None }

claims : (c n mark evictions : ℕ) (before : FrameState) (v : Victim) → Fits (turn c n mark evictions Look) → HasNothing before c
    → IsVictim before v.space v.page v.frame → is_short before mark ≡ true → evictions < mark
    → MakesOnFrames (turn c n mark evictions Look) (turn c n mark evictions (Out v)) before (counted (claimed before v.frame (Some c)))
    (claim_entry c v)
claims c n mark evictions before v fits nothing victim short fewer = record {
  entry = made_on_frames (record {
    same_work = record { processor = refl; number = refl; same_kind = refl; call = refl; mark = refl };
    in_order = ap (λ b. leads b n (Claiming (ForTurn mark evictions) v)) (lt-ltb evictions mark fewer);
    fewer = omega (arith, fewer);
    on_way = refl;
    no_answer = refl;
  }) (refl, refl) (nothing, victim, may_claim before mark (omega (arith, fewer)) short) refl;
  no_space = refl;
  fits = record { kind = fewer; can = fits.can; phase = refl };
  keeps_none = refl;
}

-- so it does of a flight of a turn
pub claimed_for_turn :
    (f : Flight) (before : FrameState) (v : Victim) → is_of_call f.purpose ≡ false → f.phase ≡ Look → Fits f
    → OwnsBy before f.processor (row_of f).progress.doing → IsVictim before v.space v.page v.frame
    → is_short before (mark_in f.purpose) ≡ true → evictions_in f.purpose < mark_in f.purpose
    → MakesOnFrames f (with_phase f (Out v)) before (counted (claimed before v.frame (Some f.processor))) (claim_entry f.processor v)
claimed_for_turn f before v of_turn phase fits owns victim short fewer =
    subst (λ (g : Flight). Fits g → OwnsBy before f.processor (row_of g).progress.doing
    → MakesOnFrames g (with_phase g (Out v)) before (counted (claimed before v.frame (Some f.processor))) (claim_entry f.processor v))
    (sym (turn-is f (mark_in f.purpose) (evictions_in f.purpose) Look (of_turn-is f.purpose of_turn) phase))
    (λ fits owns. claims f.processor f.number (mark_in f.purpose) (evictions_in f.purpose) before v fits owns victim short fewer) fits owns
