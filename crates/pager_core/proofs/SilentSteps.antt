-- The steps of a flight before the one that makes its entry.
use Rattle.std.proofs.Common.{◌≡◌, ℕ, Bool, false, List, [], ◌++◌, Some, IfSome, option_to_list, refl, ap, sym, subst, ◌∙◌, arith}
use Rattle.std.specs.List.{AllByRecursion}
use Rattle.std.proofs.lemmas.List.{append-nil}
use Rattle.pager_model.specs.declared.entry.Entry.{Entry}
use Rattle.pager_model.specs.FrameStates.{FrameState}
use Rattle.pager_model.specs.Legal.{space_at, frames_at}
use Rattle.pager_model.specs.Settings.{Given}
use Rattle.space_core.specs.Standing.{Kept}
use Rattle.flight_core.specs.declared.flight.Flight.{Flight}
use Rattle.flight_core.specs.declared.flight.Needs.{Needs}
use Rattle.flight_core.specs.declared.flight.Needs.TheVariants.{Space, Both}
use Rattle.flight_core.specs.Flights.{LeftBy}
use Rattle.flight_core.specs.Rows.{Going, has_ended, reply_in, row_of, space_under}
use Rattle.flight_core.specs.Steps.{SameSpace, answer_made}
use Rattle.flight_core.proofs.EntrySteps.{same_space-on, unchanged}
use Rattle.flight_core.specs.Flying.{IsHere, HasLeft, in_space, since}
use Rattle.flight_core.specs.Logged.{Added, Stepped}
use Rattle.flight_core.proofs.FlightSteps.{going}
use Rattle.flight_core.proofs.WholeFlights.{Added-on}
use Rattle.pager_core.proofs.Lists.{none_in}

-- After any number of steps that made no entry the log stands for the same history, and the flight goes on in the space.
pub record HasPassed {L : Type 0} (stands : L → Given → List Entry → Type 0) (g : Given) (h : List Entry) (before : ℕ) (log : L)
    (old new : Flight) (was now : Kept) (pool : FrameState) : Type 0 where
  pub stands_for : stands log g h
  pub here : IsHere g h before now new
  pub frames : pool ≡ frames_at g h
  pub added : Added old new []
  pub same_space : SameSpace was now

module _ {L : Type 0} (stands : L → Given → List Entry → Type 0) (g : Given) (h : List Entry) (before : ℕ) where
  goes_on : (f : Flight) (kept : Kept) → IsHere g h before kept f → (row_of f).outcome ≡ Going
  goes_on f kept here = going f kept.number here.ready.under

  pub HasPassed-none : (log : L) (f : Flight) (kept : Kept) (pool : FrameState) → stands log g h → IsHere g h before kept f
      → pool ≡ frames_at g h → HasPassed stands g h before log f f kept kept pool
  HasPassed-none log f kept pool is here frames =
      let goes = goes_on f kept here in
      record {
        stands_for = is;
        here = here;
        frames = frames;
        added = record {
          same_work = record { processor = refl; number = refl; same_kind = refl; call = refl; mark = refl };
          own = tt;
          answers = sym (ap (λ o. option_to_list (answer_made f (reply_in o))) goes);
          replies = sym (ap (λ o. option_to_list (reply_in o)) goes);
          spent = omega arith;
        };
        same_space = unchanged kept;
      }

  -- One step that made none.
  module _ (log : L) (old new : Flight) (was now : Kept) (pool : FrameState)
      (step : Stepped stands (since g h before) log false (in_space old was) (in_space new now) pool) where
    nothing : step.piece ≡ []
    nothing = none_in step.piece step.one

    same_history : step.history ≡ h
    same_history = step.grown ∙ ap (λ p. h ++ p) nothing ∙ append-nil h

    still_here : IsHere g h before now new
    still_here =
        let left : HasLeft g h before now new = subst (λ l. HasLeft g l before now new) same_history step.left in
        record {
          legal = left.legal;
          flying = left.flying;
          space = left.space;
          ready = (subst (λ o. LeftBy o new now (space_at g h now.number)) (step.still refl) left.left).1;
        }

    pub alone_passed : HasPassed stands g h before log old new was now pool
    alone_passed =
        record {
          stands_for = subst (stands log g) same_history step.stands_for;
          here = still_here;
          frames = step.frames ∙ ap (frames_at g) same_history;
          added = subst (Added old new) nothing step.added;
          same_space = step.same_space;
        }

  module _ (log log' : L) (old mid new : Flight) (was here now : Kept) (pool pool' : FrameState)
      (passed : HasPassed stands g h before log old mid was here pool) where
    not_ended : has_ended (row_of mid).outcome ≡ false
    not_ended = ap has_ended (goes_on mid here passed.here)

    -- one more
    pub HasPassed-more : Stepped stands (since g h before) log' false (in_space mid here) (in_space new now) pool'
        → HasPassed stands g h before log' old new was now pool'
    HasPassed-more step =
        let one = alone_passed log' mid new here now pool' step in
        record {
          stands_for = one.stands_for;
          here = one.here;
          frames = one.frames;
          added = Added-on old mid new [] [] not_ended passed.added one.added;
          same_space = same_space-on passed.same_space one.same_space;
        }

    -- and then the entry
    pub Stepped-passed : (made : Bool) → Stepped stands (since g h before) log' made (in_space mid here) (in_space new now) pool'
        → Stepped stands (since g h before) log' made (in_space old was) (in_space new now) pool'
    Stepped-passed made step =
        record {
          piece = step.piece;
          history = step.history;
          grown = step.grown;
          one = step.one;
          stands_for = step.stands_for;
          left = step.left;
          frames = step.frames;
          added = Added-on old mid new [] step.piece not_ended passed.added step.added;
          elsewhere = subst (λ n. AllByRecursion (λ (e : Entry). IfSome e.space (λ s. s ≡ n)) step.piece) passed.same_space.number step.elsewhere;
          same_space = same_space-on passed.same_space step.same_space;
          between = step.between;
          still = λ is. step.still is ∙ ap Some passed.same_space.number;
        }

-- what a step is made under is the space that the flight is ready in
pub needs_space : (n : Needs) (k number : ℕ) → n ≡ Space k → space_under n ≡ Some number → n ≡ Space number
needs_space n k number is under =
    (let at : k ≡ number = (let x : Some k ≡ Some number = sym (ap space_under is) ∙ under in cc) in is ∙ ap Space at)

pub needs_both : (n : Needs) (k number : ℕ) → n ≡ Both k → space_under n ≡ Some number → n ≡ Both number
needs_both n k number is under =
    (let at : k ≡ number = (let x : Some k ≡ Some number = sym (ap space_under is) ∙ under in cc) in is ∙ ap Both at)
