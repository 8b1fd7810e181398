-- A call evicts its page.
use Rattle.std.proofs.Common.{◌≡◌, ℕ, Bool, true, false, Some, refl, ap, sym, subst, ◌∙◌, arith}
use Rattle.std.proofs.lemmas.Option.{same_Some}
use Rattle.pager_model.specs.declared.call.Call.TheVariants.{Evict as EvictCall}
use Rattle.pager_model.specs.declared.entry.Entry.{Entry}
use Rattle.pager_model.specs.declared.entry.What.TheVariants.{Answer}
use Rattle.pager_model.specs.declared.reply.Answered.{Answered}
use Rattle.pager_model.specs.Flat.{space_of_call}
use Rattle.pager_model.specs.FrameStates.{AllowsAnswer, counted, frame_of, give_page, moved_by_answer}
use Rattle.pager_model.specs.Order.{Idle, may_answer}
use Rattle.pager_model.specs.SpaceStates.{SpaceState, WhatAllowed, space_after}
use Rattle.space_core.specs.Beginning.{BeginsEvicting, Evicts, copied_reply}
use Rattle.space_core.specs.Standing.{Kept, StandsFor, dirty_at}
use Rattle.flight_core.specs.declared.flight.Flight.{Flight}
use Rattle.flight_core.specs.declared.flight.Phase.TheVariants.{Start, Evict, Ended}
use Rattle.flight_core.specs.Flights.{IsReady}
use Rattle.flight_core.specs.Rows.{call_in}
use Rattle.flight_core.specs.Steps.{AreAgreed, Makes, Passes}
use Rattle.flight_core.proofs.AnswerSteps.{MayEnd, IsAnswered, ending, Makes-ending}
use Rattle.flight_core.proofs.EntrySteps.{SpaceAndFrames, same_space}
use Rattle.flight_core.proofs.Purposes.{in_phase, with_phase, same_work, by_ready}

-- Start: the page is equal to its copy, and gives its frame up next
Passes-evicting : (f : Flight) (page : ℕ) (was now : Kept) (st : SpaceState) → IsReady (in_phase f Start) was st
    → BeginsEvicting was now (call_in f.purpose) page → Passes (in_phase f Start) (in_phase f (Evict page)) was now st
Passes-evicting f page was now st ready begins = record {
  same_work = same_work f Start (Evict page);
  same_space = same_space begins.same.same;
  same_frames = begins.same.frame;
  keeps = ready.under;
  ready = record {
    under = on_now;
    fits = record { kind = refl; can = ready.fits.can; phase = tt };
    stands = begins.stands st ready.stands;
    next = ready.next;
    found = record {
      is_evict = begins.is_evict.1 ∙ ap (λ s. EvictCall s page) (sym (ap space_of_call begins.is_evict.1) ∙ same_Some _ _ on_now);
      evicting = begins.evicting;
    };
  };
  same_progress = refl;
  going = refl;
  memory = tt;
  no_more = omega arith;
}
  where
    on_now : Some (space_of_call (call_in f.purpose)) ≡ Some now.number
    on_now = ready.under ∙ ap Some (sym begins.same.same.number)

pub begin_evicting : (f : Flight) (page : ℕ) (was now : Kept) → f.phase ≡ Start
    → BeginsEvicting was now (call_in f.purpose) page → (st : SpaceState) → IsReady f was st
    → Passes f (with_phase f (Evict page)) was now st
begin_evicting f page was now phase begins st =
    by_ready f Start was st refl phase (λ g to. Passes g (to (Evict page)) was now st)
    (λ ready. Passes-evicting f page was now st ready begins)

-- a page that was written, or was clean, is the answer alone
copied_alone : (space page : ℕ) (written : Bool) → may_answer Idle (EvictCall space page) (copied_reply written) ≡ true
copied_alone space page true = refl
copied_alone space page false = refl

-- Evict: the page gives its frame up, and the call is answered
module _ (f : Flight) (page : ℕ) (a : Answered) (was : SpaceAndFrames) (now : Kept) (st : SpaceState) where
  Makes-evict :
      IsReady (in_phase f (Evict page)) was.space st → AreAgreed was.space was.frames → (frame : ℕ) → Evicts was.space now page frame a
      → Makes (in_phase f (Evict page)) (in_phase f (Ended a.reply)) was.space now st was.frames
      (counted (give_page was.frames (space_of_call (call_in f.purpose)) page)) (ending f a true)
  Makes-evict ready agree frame evicts =
      let own : call_in f.purpose ≡ EvictCall was.space.number page = ready.found.is_evict in
      let on : space_of_call (call_in f.purpose) ≡ was.space.number = same_Some _ _ ready.under in
      let ends : MayEnd f (Evict page) a = record {
        goes_on = tt;
        made = refl;
        may = subst (λ k. may_answer Idle k a.reply ≡ true) (sym own)
            (subst (λ r. may_answer Idle (EvictCall was.space.number page) r ≡ true) (sym evicts.replied)
            (copied_alone was.space.number page (dirty_at was.space page)));
        some = omega arith;
      } in
      let answered : IsAnswered f a true was.space now st = record {
        on = on;
        same_space = same_space evicts.gave.same;
        resting = evicts.resting;
        allowed = subst (λ k. WhatAllowed st true f.processor (Answer f.number k a)) (sym own)
            (evicts.allowed st ready.stands f.processor f.number);
        stands = subst (λ k. StandsFor now (space_after st (let e : Entry = record {
          processor = f.processor;
          space = Some was.space.number;
          frames = true;
          what = Answer f.number k a;
        } in e))) (sym own)
            (evicts.stands st ready.stands f.processor f.number);
      } in
      Makes-ending f (Evict page) a was.space now st true ready ends answered was.frames
      (counted (give_page was.frames (space_of_call (call_in f.purpose)) page))
      (λ named. subst (AllowsAnswer was.frames (space_of_call (call_in f.purpose))) (sym own)
      (frame, ap (λ s. frame_of was.frames s page) on ∙ sym (agree.pages page) ∙ evicts.gave.had))
      (ap (λ k. counted (moved_by_answer was.frames (space_of_call (call_in f.purpose)) k)) (sym own))

pub page_evicted : (f : Flight) (page frame : ℕ) (a : Answered) (was : SpaceAndFrames) (now : Kept) → f.phase ≡ Evict page
    → AreAgreed was.space was.frames → Evicts was.space now page frame a → (st : SpaceState) → IsReady f was.space st
    → Makes f (with_phase f (Ended a.reply)) was.space now st was.frames
    (counted (give_page was.frames (space_of_call (call_in f.purpose)) page)) (ending f a true)
page_evicted f page frame a was now phase agree evicts st =
    by_ready f (Evict page) was.space st refl phase
    (λ g to. Makes g (to (Ended a.reply)) was.space now st was.frames
    (counted (give_page was.frames (space_of_call (call_in f.purpose)) page)) (ending f a true))
    (λ ready. Makes-evict f page a was now st ready agree frame evicts)
