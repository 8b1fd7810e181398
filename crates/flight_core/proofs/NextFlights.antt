-- What the row of a flight says, phase by phase.
use Rattle.std.proofs.Common.{Bool, ◌≡◌, ℕ, true, false, eqb, Option, Some, None, refl, ap, sym, subst, ◌∙◌, inl, inr, ◌⊎◌}
use Rattle.std.proofs.lemmas.Bool.{cases_Bool, cond-true, cond-false, eqb-true, eq-eqb, false≢true}
use Rattle.std.proofs.lemmas.Option.{none-some, same_Some}
use Rattle.pager_model.specs.declared.entry.Victim.{Victim}
use Rattle.pager_model.specs.declared.call.Call.{Call}
use Rattle.pager_model.specs.declared.call.Call.TheVariants.{Load, Store}
use Rattle.pager_model.specs.declared.reply.Reply.{Reply}
use Rattle.pager_model.specs.Flat.{space_of_call}
use Rattle.pager_model.specs.Locks.{keeps_in, own_if, under_in}
use Rattle.pager_model.specs.Order.{Access, is_access}
use Rattle.pager_model.specs.SpaceStates.{Anyone}
use Rattle.space_core.specs.Standing.{Kept, IsResting, copied_page}
use Rattle.flight_core.specs.declared.flight.Flight.{Flight}
use Rattle.flight_core.specs.declared.flight.Phase.{Phase}
use Rattle.flight_core.specs.declared.flight.Phase.TheVariants.{Start, Evict, Clear, Pin, Gone, Frame, Out, Write, Hand, Unclaim, Back, Drop, Use, Fault, Lack, Look, Rested, Ended}
use Rattle.flight_core.specs.declared.flight.Needs.{Needs}
use Rattle.flight_core.specs.declared.flight.Needs.TheVariants.{Space, Both, Frames, Ended as NoneNeeded}
use Rattle.flight_core.specs.declared.flight.Purpose.{Purpose}
use Rattle.flight_core.specs.declared.flight.Purpose.TheVariants.{Call as OfCall, Turn as OfTurn}
use Rattle.flight_core.specs.Flights.{Fits, IsFor, PhaseFits, PhaseStands, TurnFits, is_of_turns}
use Rattle.flight_core.specs.Rows.{Going, TurnEnded, Answered, access_in, alone, call_in, faulted, is_between, is_of_call, own_space, pins, readied, reply_in, row_of, row_in, space_under}
use Rattle.flight_core.proofs.Purposes.{of_call-is}

-- Of a row.

-- what came of a flight is told by its phase alone
not_going : (r : Reply) → Answered r ≡ Going → ⊥
not_going r is = none-some r (sym (ap reply_in is))

not_ended : TurnEnded ≡ Going → ⊥
not_ended is = (let no : TurnEnded ≡ Going = is in cc)

turn_goes_on_in : (c n : ℕ) (own : Option ℕ) (purpose : Purpose) (p : Phase) → is_of_turns p ≡ false
    → (row_in c n own purpose p).outcome ≡ TurnEnded → ⊥
turn_goes_on_in c n own purpose Rested calls is = absurd (false≢true (sym calls))
turn_goes_on_in c n own purpose (Ended reply) calls is = none-some reply (sym (ap reply_in is))
turn_goes_on_in c n own purpose (Unclaim v None) calls is = not_ended (sym is)
turn_goes_on_in c n own purpose (Unclaim v (Some count)) calls is = not_ended (sym is)
turn_goes_on_in c n own purpose p calls is = not_ended (sym is)

-- the phase of a call that was answered
ended_by_in : (c n : ℕ) (own : Option ℕ) (purpose : Purpose) (p : Phase) (r : Reply) → (row_in c n own purpose p).outcome ≡ Answered r
    → p ≡ Ended r
ended_by_in c n own purpose (Ended reply) r is = ap Ended (same_Some reply r (ap reply_in is))
ended_by_in c n own purpose Rested r is = (let no : TurnEnded ≡ Answered r = is in cc)
ended_by_in c n own purpose (Unclaim v None) r is = absurd (not_going r (sym is))
ended_by_in c n own purpose (Unclaim v (Some count)) r is = absurd (not_going r (sym is))
ended_by_in c n own purpose p r is = absurd (not_going r (sym is))

-- until it is answered a call isn't counted
made_going_in : (c n : ℕ) (own : Option ℕ) (purpose : Purpose) (p : Phase) → (row_in c n own purpose p).outcome ≡ Going
    → (row_in c n own purpose p).progress.made ≡ n
made_going_in c n own purpose (Ended reply) is = absurd (not_going reply is)
made_going_in c n own purpose Rested is = absurd (not_ended is)
made_going_in c n own purpose (Unclaim v None) is = refl
made_going_in c n own purpose (Unclaim v (Some count)) is = refl
made_going_in c n own purpose p is = refl

-- The space whose lock a step is made under, and that which a flight keeps.

under_alone : (own : Option ℕ) → space_under (alone own) ≡ own
under_alone None = refl
under_alone (Some s) = refl

-- whether a sync or an evict failed, or an access
under_faulted : (own : Option ℕ) (a : Access) (space count : ℕ) (o : Option ℕ) → under_in own (faulted a space count o) ≡ own
under_faulted own a space count None = refl
under_faulted own a space count (Some page) = refl

pub keeps_faulted : (own : Option ℕ) (a : Access) (space count : ℕ) (o : Option ℕ)
    → keeps_in own (faulted a space count o) ≡ own_if own space
keeps_faulted own a space count None = refl
keeps_faulted own a space count (Some page) = refl

pub under_fault : (own : Option ℕ) (a : Access) (space count : ℕ) (o : Option ℕ)
    → space_under (alone (under_in own (faulted a space count o))) ≡ own
under_fault own a space count o = ap (λ u. space_under (alone u)) (under_faulted own a space count o) ∙ under_alone own

-- whether a range was cleared or pinned
pub under_readied : (own : Option ℕ) (space first len : ℕ) (o : Option Bool) → under_in own (readied space first len o) ≡ own
under_readied own space first len None = refl
under_readied own space first len (Some wired) = refl

pub keeps_readied : (own : Option ℕ) (space first len : ℕ) (o : Option Bool) → keeps_in own (readied space first len o) ≡ own
keeps_readied own space first len None = refl
keeps_readied own space first len (Some wired) = refl

pub under_gone : (own : Option ℕ) (space first len : ℕ) (o : Option Bool)
    → space_under (alone (under_in own (readied space first len o))) ≡ own
under_gone own space first len o = ap (λ u. space_under (alone u)) (under_readied own space first len o) ∙ under_alone own

-- The space of a step is its call's, or one that the flight keeps, or that of its victim.
under_cases_in : (c n : ℕ) (own : Option ℕ) (t : ℕ) (purpose : Purpose) (p : Phase) → space_under (row_in c n own purpose p).needs ≡ Some t
    → (own ≡ Some t) ⊎ (((row_in c n own purpose p).keeps ≡ Some t) ⊎ ((v : Victim) × (p ≡ Out v) × (t ≡ v.space)))
under_cases_in c n own t purpose (Ended reply) is = absurd (none-some t is)
under_cases_in c n own t purpose Rested is = absurd (none-some t is)
under_cases_in c n own t purpose (Out v) is = inr (inr (v, refl, sym (same_Some v.space t is)))
under_cases_in c n own t purpose (Write v) is = inr (inl is)
under_cases_in c n own t purpose (Hand v) is = inr (inl is)
under_cases_in c n own t purpose (Unclaim v None) is = inr (inl is)
under_cases_in c n own t purpose (Unclaim v (Some count)) is = inr (inl is)
under_cases_in c n own t purpose (Fault space count) is = inl
    (sym (under_fault own (access_in purpose) space count (copied_page (call_in purpose))) ∙ is)
under_cases_in c n own t purpose (Gone first len) is = inl
    (sym (under_gone own (space_of_call (call_in purpose)) first len (pins (call_in purpose))) ∙ is)
under_cases_in c n None t purpose p is = inl is
under_cases_in c n (Some s) t purpose p is = inl is

-- a lock that is kept in the call's own space alone
pub own_if-own : (space : ℕ) → own_if (Some space) space ≡ Some space
own_if-own space = cond-true (eqb space space) (Some space) None (eq-eqb space space refl)

pub own_if-some : (own : Option ℕ) (space t : ℕ) → own_if own space ≡ Some t → (own ≡ Some t) × (space ≡ t)
own_if-some None space t is = absurd (none-some t is)
own_if-some (Some own) space t is = elim (cases_Bool (eqb space own)) [
  | inl same ↦
      let here : own ≡ t = same_Some own t (sym (cond-true (eqb space own) (Some own) None same) ∙ is) in
      (ap Some here, eqb-true space own same ∙ here)
  | inr other ↦ absurd (none-some t (sym (cond-false (eqb space own) (Some own) None other) ∙ is))
]

own_if-none : (own space : ℕ) → own_if (Some own) space ≡ None → space ≡ own → ⊥
own_if-none own space is same = none-some own (sym is ∙ cond-true (eqb space own) (Some own) None (eq-eqb space own same))

pub own_if-cases : (own : Option ℕ) (space : ℕ) → (own_if own space ≡ Some space) ⊎ (own_if own space ≡ None)
own_if-cases None space = inr refl
own_if-cases (Some own) space = elim (cases_Bool (eqb space own)) [
  | inl same ↦ inl (cond-true (eqb space own) (Some own) None same ∙ ap Some (sym (eqb-true space own same)))
  | inr other ↦ inr (cond-false (eqb space own) (Some own) None other)
]

-- the space that it keeps is the one that its next step is made under
keeps_under_in : (c n : ℕ) (own : Option ℕ) (t : ℕ) (purpose : Purpose) (p : Phase) → (row_in c n own purpose p).keeps ≡ Some t
    → space_under (row_in c n own purpose p).needs ≡ Some t
keeps_under_in c n own t purpose Start is = absurd (none-some t is)
keeps_under_in c n own t purpose (Ended reply) is = absurd (none-some t is)
keeps_under_in c n own t purpose Look is = absurd (none-some t is)
keeps_under_in c n own t purpose Rested is = absurd (none-some t is)
keeps_under_in c n None t (OfCall call claimed) (Drop v) is = is
keeps_under_in c n (Some s) t (OfCall call claimed) (Drop v) is = is
keeps_under_in c n None t (OfTurn mark evictions) (Drop v) is = is
keeps_under_in c n (Some s) t (OfTurn mark evictions) (Drop v) is = (own_if-some (Some s) v.space t is).0
keeps_under_in c n own t purpose (Out v) is = ap Some (own_if-some own v.space t is).1
keeps_under_in c n own t purpose (Write v) is = is
keeps_under_in c n own t purpose (Hand v) is = is
keeps_under_in c n own t purpose (Unclaim v None) is = is
keeps_under_in c n own t purpose (Unclaim v (Some count)) is = is
keeps_under_in c n own t purpose (Back v) is = under_alone own ∙ (own_if-some own v.space t is).0
keeps_under_in c n own t purpose (Fault space count) is =
    let a = access_in purpose in
    let o = copied_page (call_in purpose) in
    under_fault own a space count o ∙ (own_if-some own space t (sym (keeps_faulted own a space count o) ∙ is)).0
keeps_under_in c n own t purpose (Lack space) is = under_alone own ∙ (own_if-some own space t is).0
keeps_under_in c n own t purpose (Gone first len) is =
    let s = space_of_call (call_in purpose) in
    let o = pins (call_in purpose) in
    under_gone own s first len o ∙ sym (keeps_readied own s first len o) ∙ is
keeps_under_in c n None t purpose p is = is
keeps_under_in c n (Some s) t purpose p is = is

-- Where an entry led to, the table of locks tells by the place which space the flight keeps, and which one its next step is made under.
keeps_by_place_in : (c n : ℕ) (own : Option ℕ) (purpose : Purpose) (p : Phase) → is_between purpose p ≡ true
    → (row_in c n own purpose p).keeps ≡ keeps_in own (row_in c n own purpose p).progress.doing
keeps_by_place_in c n own purpose (Evict page) between = absurd (false≢true between)
keeps_by_place_in c n own purpose (Clear first len) between = absurd (false≢true between)
keeps_by_place_in c n own purpose (Pin first len wired) between = absurd (false≢true between)
keeps_by_place_in c n own purpose (Frame page want) between = absurd (false≢true between)
keeps_by_place_in c n own purpose (Write v) between = absurd (false≢true between)
keeps_by_place_in c n own purpose (Unclaim v None) between = absurd (false≢true between)
keeps_by_place_in c n own purpose (Unclaim v (Some count)) between = refl
keeps_by_place_in c n own (OfCall call claimed) (Drop v) between = absurd (false≢true between)
keeps_by_place_in c n own (OfTurn mark evictions) (Drop v) between = refl
keeps_by_place_in c n own (OfCall call claimed) Look between = refl
keeps_by_place_in c n own (OfTurn mark evictions) Look between = refl
keeps_by_place_in c n own purpose (Use page want v) between = absurd (false≢true between)
keeps_by_place_in c n own purpose p between = refl

under_by_place_in : (c n : ℕ) (own : Option ℕ) (purpose : Purpose) (p : Phase) → is_between purpose p ≡ true
    → (row_in c n own purpose p).outcome ≡ Going
    → space_under (row_in c n own purpose p).needs ≡ under_in own (row_in c n own purpose p).progress.doing
under_by_place_in c n own purpose (Ended reply) between is = absurd (not_going reply is)
under_by_place_in c n own purpose Rested between is = absurd (not_ended is)
under_by_place_in c n own (OfCall call claimed) Look between is = under_alone own
under_by_place_in c n own (OfTurn mark evictions) Look between is = under_alone own
under_by_place_in c n own purpose (Unclaim v None) between is = refl
under_by_place_in c n own purpose (Unclaim v (Some count)) between is = refl
under_by_place_in c n own purpose (Fault space count) between is = under_alone
    (under_in own (faulted (access_in purpose) space count (copied_page (call_in purpose))))
under_by_place_in c n own purpose (Gone first len) between is = under_alone
    (under_in own (readied (space_of_call (call_in purpose)) first len (pins (call_in purpose))))
under_by_place_in c n None purpose p between is = refl
under_by_place_in c n (Some s) purpose p between is = refl

-- a load or a store has no copy written
pub copies_none : (call : Call) → is_access call ≡ true → copied_page call ≡ None
copies_none (Load space address) is = refl
copies_none (Store space address word) is = refl
copies_none call is = absurd (false≢true is)

-- a flight that goes on and keeps no space may go on in any that rests
anywhere_in : (c n s : ℕ) (purpose : Purpose) (p : Phase) (kept : Kept) → is_of_call purpose ≡ true → s ≡ space_of_call (call_in purpose)
    → (row_in c n (Some s) purpose p).outcome ≡ Going → (row_in c n (Some s) purpose p).keeps ≡ None → PhaseFits purpose p → IsResting kept
    → ((row_in c n (Some s) purpose p).next ≡ Anyone) × PhaseStands (call_in purpose) kept p
anywhere_in c n s purpose (Ended reply) kept calls own is none fits rest = absurd (not_going reply is)
anywhere_in c n s purpose Rested kept calls own is none fits rest = absurd (not_ended is)
anywhere_in c n s purpose Look kept calls own is none fits rest = (refl, rest)
anywhere_in c n s (OfCall call claimed) (Drop v) kept calls own is none fits rest = absurd (none-some _ (sym none))
anywhere_in c n s (OfTurn mark evictions) (Drop v) kept calls own is none fits rest = absurd (false≢true calls)
anywhere_in c n s purpose Start kept calls own is none fits rest = (refl, rest)
anywhere_in c n s purpose (Out v) kept calls own is none fits rest = (refl, rest)
anywhere_in c n s purpose (Back v) kept calls own is none fits rest = (refl, rest)
anywhere_in c n s purpose (Lack space) kept calls own is none fits rest = (refl, rest)
anywhere_in c n s purpose (Fault space count) kept calls own is none fits rest = (
  refl,
  record {
    resting = rest;
    must = λ page copied. elim fits [
      | inl here ↦ absurd (own_if-none s space
          (sym (keeps_faulted (Some s) (access_in purpose) space count (copied_page (call_in purpose))) ∙ none) (here.0 ∙ sym own))
      | inr access ↦ absurd (none-some page (sym (copies_none (call_in purpose) access) ∙ copied))
    ];
  },
)
anywhere_in c n s purpose (Gone first len) kept calls own is none fits rest = absurd
    (none-some _ (sym none ∙ keeps_readied (Some s) (space_of_call (call_in purpose)) first len (pins (call_in purpose))))
anywhere_in c n s purpose (Unclaim v None) kept calls own is none fits rest = absurd (none-some _ (sym none))
anywhere_in c n s purpose (Unclaim v (Some count)) kept calls own is none fits rest = absurd (none-some _ (sym none))
anywhere_in c n s purpose p kept calls own is none fits rest = absurd (none-some _ (sym none))

-- Of a flight.

-- a call doesn't end as a turn does
pub turn_goes_on : (f : Flight) → is_of_turns f.phase ≡ false → (row_of f).outcome ≡ TurnEnded → ⊥
turn_goes_on f = turn_goes_on_in f.processor f.number (own_space f.purpose) f.purpose f.phase

pub of_calls : (f : Flight) → is_of_call f.purpose ≡ true → Fits f → is_of_turns f.phase ≡ false
of_calls f is_call fits = subst (λ p. IsFor p f.phase) (of_call-is f.purpose is_call) fits.kind

pub ended_by : (f : Flight) (r : Reply) → (row_of f).outcome ≡ Answered r → f.phase ≡ Ended r
ended_by f = ended_by_in f.processor f.number (own_space f.purpose) f.purpose f.phase

pub made_going : (f : Flight) → (row_of f).outcome ≡ Going → (row_of f).progress.made ≡ f.number
made_going f = made_going_in f.processor f.number (own_space f.purpose) f.purpose f.phase

pub keeps_under : (f : Flight) (t : ℕ) → (row_of f).keeps ≡ Some t → space_under (row_of f).needs ≡ Some t
keeps_under f t = keeps_under_in f.processor f.number (own_space f.purpose) t f.purpose f.phase

pub keeps_none : (f : Flight) → space_under (row_of f).needs ≡ None → (row_of f).keeps ≡ None
keeps_none f under = by (row_of f).keeps refl
  where
    by : (o : Option ℕ) → (row_of f).keeps ≡ o → (row_of f).keeps ≡ None
    by None is = is
    by (Some t) is = absurd (none-some t (sym under ∙ keeps_under f t is))

pub keeps_by_place : (f : Flight) → is_between f.purpose f.phase ≡ true
    → (row_of f).keeps ≡ keeps_in (own_space f.purpose) (row_of f).progress.doing
keeps_by_place f = keeps_by_place_in f.processor f.number (own_space f.purpose) f.purpose f.phase

pub under_by_place : (f : Flight) → is_between f.purpose f.phase ≡ true → (row_of f).outcome ≡ Going
    → space_under (row_of f).needs ≡ under_in (own_space f.purpose) (row_of f).progress.doing
under_by_place f = under_by_place_in f.processor f.number (own_space f.purpose) f.purpose f.phase

pub under_cases : (f : Flight) (t : ℕ) → space_under (row_of f).needs ≡ Some t
    → (own_space f.purpose ≡ Some t) ⊎ (((row_of f).keeps ≡ Some t) ⊎ ((v : Victim) × (f.phase ≡ Out v) × (t ≡ v.space)))
under_cases f t = under_cases_in f.processor f.number (own_space f.purpose) t f.purpose f.phase

-- a turn that goes on in a space without keeping it is about to page its victim out
anywhere_turn_in : (c n s mark evictions : ℕ) (p : Phase) (kept : Kept) → TurnFits mark evictions p
    → space_under (row_in c n None (OfTurn mark evictions) p).needs ≡ Some s → (row_in c n None (OfTurn mark evictions) p).keeps ≡ None
    → IsResting kept
    → ((row_in c n None (OfTurn mark evictions) p).next ≡ Anyone) × PhaseStands (call_in (OfTurn mark evictions)) kept p
anywhere_turn_in c n s mark evictions (Out v) kept fits under none rest = (refl, rest)
anywhere_turn_in c n s mark evictions (Write v) kept fits under none rest = absurd (none-some _ (sym none))
anywhere_turn_in c n s mark evictions (Hand v) kept fits under none rest = absurd (none-some _ (sym none))
anywhere_turn_in c n s mark evictions (Unclaim v None) kept fits under none rest = absurd (none-some _ (sym none))
anywhere_turn_in c n s mark evictions (Unclaim v (Some count)) kept fits under none rest = absurd (none-some _ (sym none))
anywhere_turn_in c n s mark evictions (Drop v) kept fits under none rest = absurd (none-some s under)
anywhere_turn_in c n s mark evictions Look kept fits under none rest = absurd (none-some s under)
anywhere_turn_in c n s mark evictions Rested kept fits under none rest = absurd (none-some s under)
anywhere_turn_in c n s mark evictions p kept fits under none rest = absurd fits

anywhere_by : (c n s : ℕ) (purpose : Purpose) (p : Phase) (kept : Kept)
    → space_under (row_in c n (own_space purpose) purpose p).needs ≡ Some s → IsFor purpose p → PhaseFits purpose p
    → (row_in c n (own_space purpose) purpose p).outcome ≡ Going → (row_in c n (own_space purpose) purpose p).keeps ≡ None → IsResting kept
    → ((row_in c n (own_space purpose) purpose p).next ≡ Anyone) × PhaseStands (call_in purpose) kept p
anywhere_by c n s (OfCall call claimed) p kept under kind fits going none rest =
    anywhere_in c n (space_of_call call) (OfCall call claimed) p kept refl refl going none fits rest
anywhere_by c n s (OfTurn mark evictions) p kept under kind fits going none rest =
    anywhere_turn_in c n s mark evictions p kept kind under none rest

pub anywhere : (f : Flight) (kept : Kept) (s : ℕ) → space_under (row_of f).needs ≡ Some s → Fits f → (row_of f).outcome ≡ Going
    → (row_of f).keeps ≡ None → IsResting kept → ((row_of f).next ≡ Anyone) × PhaseStands (call_in f.purpose) kept f.phase
anywhere f kept s under fits = anywhere_by f.processor f.number s f.purpose f.phase kept under fits.kind fits.phase

-- A flight that goes on needs some lock, and where it needs no space's that of the frames.

abbrev is_over : Needs → Bool
is_over (Space s) = false
is_over (Both s) = false
is_over Frames = false
is_over NoneNeeded = true

alone_goes : (own : Option ℕ) → is_over (alone own) ≡ false
alone_goes None = refl
alone_goes (Some s) = refl

goes_in : (c n : ℕ) (own : Option ℕ) (purpose : Purpose) (p : Phase) → (row_in c n own purpose p).outcome ≡ Going
    → is_over (row_in c n own purpose p).needs ≡ false
goes_in c n own purpose (Ended reply) is = absurd (not_going reply is)
goes_in c n own purpose Rested is = absurd (not_ended is)
goes_in c n own purpose (Unclaim v None) is = refl
goes_in c n own purpose (Unclaim v (Some count)) is = refl
goes_in c n own purpose (Fault space count) is =
    ap (λ u. is_over (alone u)) (under_faulted own (access_in purpose) space count (copied_page (call_in purpose))) ∙ alone_goes own
goes_in c n own purpose (Gone first len) is =
    ap (λ u. is_over (alone u)) (under_readied own (space_of_call (call_in purpose)) first len (pins (call_in purpose))) ∙ alone_goes own
goes_in c n None purpose p is = refl
goes_in c n (Some s) purpose p is = refl

pub frames_needed : (f : Flight) → (row_of f).outcome ≡ Going → space_under (row_of f).needs ≡ None → (row_of f).needs ≡ Frames
frames_needed f going none = by (row_of f).needs refl
  where
    by : (n : Needs) → (row_of f).needs ≡ n → (row_of f).needs ≡ Frames
    by (Space s) is = absurd (none-some s (sym none ∙ ap space_under is))
    by (Both s) is = absurd (none-some s (sym none ∙ ap space_under is))
    by Frames is = is
    by NoneNeeded is = absurd
        (false≢true (sym (goes_in f.processor f.number (own_space f.purpose) f.purpose f.phase going) ∙ ap is_over is))
