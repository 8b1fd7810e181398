-- Steps by which a store's fault comes: a sync's or an evict's write fails, or an access's read, and the page that could not be
-- read in gives its frame up.
use Rattle.std.proofs.Common.{◌≡◌, ℕ, true, false, is_some, Some, refl, ap, sym, subst, ◌∙◌, inl, inr, arith}
use Rattle.std.proofs.lemmas.Bool.{and_from, eq-eqb}
use Rattle.std.proofs.lemmas.Option.{none-some, same_Some}
use Rattle.pager_model.specs.Flat.{space_of_call}
use Rattle.pager_model.specs.FrameStates.{FrameState, counted, frame_of, give_page}
use Rattle.pager_model.specs.Order.{Progress, Unfilling, Faulted, leads, is_access}
use Rattle.pager_model.specs.SpaceStates.{SpaceState, access_page}
use Rattle.space_core.specs.Beginning.{BeginsFailing, FailsToRead, Removes}
use Rattle.space_core.specs.Standing.{Kept, MustWrite, copied_page}
use Rattle.pager_model.specs.CallEntries.{failed_entry, give_entry}
use Rattle.flight_core.specs.declared.flight.Flight.{Flight}
use Rattle.flight_core.specs.declared.flight.Phase.TheVariants.{Start, Fill, Unfill, Fault}
use Rattle.flight_core.specs.Flights.{IsReady}
use Rattle.flight_core.specs.Rows.{access_in, call_in, faulted, page_or_zero, row_of}
use Rattle.flight_core.specs.Steps.{AreAgreed, Makes}
use Rattle.flight_core.proofs.AnswerSteps.{is_access_by_page, allowed-same}
use Rattle.flight_core.proofs.EntrySteps.{Leaves-on, SpaceAndFrames, same_space}
use Rattle.flight_core.proofs.MadeEntries.{made_in_space, made_on_frames}
use Rattle.flight_core.proofs.NextFlights.{copies_none, keeps_faulted, own_if-own}
use Rattle.flight_core.proofs.Purposes.{in_phase, with_phase, same_work, by_ready}

-- a store's fault in the call's own space keeps it
keeps_fault : (f : Flight) (count : ℕ)
    → (row_of (in_phase f (Fault (space_of_call (call_in f.purpose)) count))).keeps ≡ Some (space_of_call (call_in f.purpose))
keeps_fault f count =
    let own = space_of_call (call_in f.purpose) in
    keeps_faulted (Some own) (access_in f.purpose) own count (copied_page (call_in f.purpose)) ∙ own_if-own own

-- Start: the write of a sync's or an evict's page failed
Makes-failing : (f : Flight) (page count : ℕ) (was now : Kept) (st : SpaceState) → IsReady (in_phase f Start) was st
    → BeginsFailing was now (call_in f.purpose) page count → (frames : FrameState)
    → Makes (in_phase f Start) (in_phase f (Fault (space_of_call (call_in f.purpose)) count)) was now st frames frames
    (failed_entry f.processor (space_of_call (call_in f.purpose)) page true count)
Makes-failing f page count was now st ready begins frames =
    let own = space_of_call (call_in f.purpose) in
    let on : own ≡ was.number = same_Some _ _ ready.under in
    let fails = begins.fails in
    record {
      entry = made_in_space (record {
        same_work = same_work f Start (Fault own count);
        in_order = ap (λ o. Some (let p : Progress = record { made = f.number; doing = faulted (access_in f.purpose) own count o } in p))
            (sym begins.must.is);
        fewer = omega arith;
        on_way = refl;
        no_answer = refl;
      }) ((own, refl), refl);
      space =
          Leaves-on (failed_entry f.processor own page true count) (ap Some on) (same_space fails.same.same) ready.next tt
          (fails.allowed st ready.stands f.processor)
          (record {
            fits = record { kind = refl; can = ready.fits.can; phase = inl (refl, ap is_some begins.must.is) };
            stands = fails.stands st ready.stands f.processor;
            next = refl;
            found = record {
              resting = fails.resting;
              must = λ p copies. subst (MustWrite now (call_in f.purpose))
                  (same_Some _ _ (sym begins.must.is ∙ copies)) begins.must;
            };
            keeps = inl (keeps_fault f count ∙ ap Some (on ∙ sym fails.same.same.number));
          });
    }

pub begin_failed : (f : Flight) (page count : ℕ) (was now : Kept) → f.phase ≡ Start → BeginsFailing was now (call_in f.purpose) page count
    → (st : SpaceState) (frames : FrameState) → IsReady f was st
    → Makes f (with_phase f (Fault (space_of_call (call_in f.purpose)) count)) was now st frames frames
    (failed_entry f.processor (space_of_call (call_in f.purpose)) page true count)
begin_failed f page count was now phase begins st frames =
    by_ready f Start was st refl phase
    (λ g to. Makes g (to (Fault (space_of_call (call_in f.purpose)) count)) was now st frames frames
    (failed_entry f.processor (space_of_call (call_in f.purpose)) page true count))
    (λ ready. Makes-failing f page count was now st ready begins frames)

-- Fill: the read failed
Makes-unfilled : (f : Flight) (page frame count : ℕ) (was now : Kept) (st : SpaceState) → IsReady (in_phase f (Fill page frame)) was st
    → FailsToRead was now page count → (frames : FrameState)
    → Makes (in_phase f (Fill page frame)) (in_phase f (Unfill page frame count)) was now st frames frames
    (failed_entry f.processor (space_of_call (call_in f.purpose)) page false count)
Makes-unfilled f page frame count was now st ready fails frames =
    let own = space_of_call (call_in f.purpose) in
    let on : own ≡ was.number = same_Some _ _ ready.under in
    let has = ready.found in
    record {
      entry = made_in_space (record {
        same_work = same_work f (Fill page frame) (Unfill page frame count);
        in_order = ap (λ b. leads b f.number (Unfilling (access_in f.purpose) frame count))
            (and_from _ _ (eq-eqb own own refl) (eq-eqb page (page_or_zero (access_page (call_in f.purpose)))
            (ap page_or_zero (sym has.lawful.page_is))));
        fewer = omega arith;
        on_way = refl;
        no_answer = refl;
      }) ((own, refl), refl);
      space =
          Leaves-on (failed_entry f.processor own page false count) (ap Some on) (same_space fails.same.same) ready.next refl
          (fails.allowed st ready.stands f.processor)
          (record {
            fits = record { kind = refl; can = ready.fits.can; phase = tt };
            stands = fails.stands st ready.stands f.processor;
            next = refl;
            found = record {
              has = record {
                lawful = record {
                  page_is = has.lawful.page_is;
                  in_space = has.lawful.in_space;
                  allowed = allowed-same was now (call_in f.purpose) fails.same.same ∙ has.lawful.allowed;
                };
                pending = fails.same_pending ∙ has.pending;
                none_clearing = fails.same_clearing ∙ has.none_clearing;
                none_paged = fails.same_paged ∙ has.none_paged;
                resident = fails.same.frame page ∙ has.resident;
              };
              clean = fails.clean;
            };
            keeps = inl (ap Some (on ∙ sym fails.same.same.number));
          });
    }

pub fill_failed : (f : Flight) (page frame count : ℕ) (was now : Kept) → f.phase ≡ Fill page frame → FailsToRead was now page count
    → (st : SpaceState) (frames : FrameState) → IsReady f was st
    → Makes f (with_phase f (Unfill page frame count)) was now st frames frames
    (failed_entry f.processor (space_of_call (call_in f.purpose)) page false count)
fill_failed f page frame count was now phase fails st frames =
    by_ready f (Fill page frame) was st refl phase
    (λ g to. Makes g (to (Unfill page frame count)) was now st frames frames
    (failed_entry f.processor (space_of_call (call_in f.purpose)) page false count))
    (λ ready. Makes-unfilled f page frame count was now st ready fails frames)

-- Unfill: the page gives its frame up
module _ (f : Flight) (page frame count : ℕ) (was : SpaceAndFrames) (now : Kept) where
  Makes-unfill :
      (st : SpaceState) → IsReady (in_phase f (Unfill page frame count)) was.space st → AreAgreed was.space was.frames → (given : ℕ)
      → Removes was.space now page given
      → Makes (in_phase f (Unfill page frame count))
      (in_phase f (Fault (space_of_call (call_in f.purpose)) count)) was.space now st was.frames
      (counted (give_page was.frames (space_of_call (call_in f.purpose)) page))
      (give_entry f.processor (space_of_call (call_in f.purpose)) page given)
  Makes-unfill st ready agree given removes =
      let own = space_of_call (call_in f.purpose) in
      let on : own ≡ was.space.number = same_Some _ _ ready.under in
      let lawful = ready.found.has.lawful in
      let access : is_access (call_in f.purpose) ≡ true = is_access_by_page (call_in f.purpose) page lawful.page_is in
      record {
        entry = made_on_frames (record {
          same_work = same_work f (Unfill page frame count) (Fault own count);
          in_order = ap (λ b. leads b f.number (Faulted (access_in f.purpose) own count))
              (and_from _ _ (and_from _ _ (eq-eqb own own refl) (eq-eqb page (page_or_zero (access_page (call_in f.purpose)))
              (ap page_or_zero (sym lawful.page_is))))
              (eq-eqb given frame (same_Some _ _ (sym removes.gave.had ∙ ready.found.has.resident))))
              ∙ ap (λ o. Some (let p : Progress = record { made = f.number; doing = faulted (access_in f.purpose) own count o } in p))
              (sym (copies_none (call_in f.purpose) access));
          fewer = omega arith;
          on_way = refl;
          no_answer = refl;
        }) ((own, refl), refl) (ap (λ s. frame_of was.frames s page) on ∙ sym (agree.pages page) ∙ removes.gave.had) refl;
        space =
            Leaves-on (give_entry f.processor own page given) (ap Some on) (same_space removes.gave.same) ready.next refl
            (removes.allowed st ready.stands f.processor)
            (record {
              fits = record { kind = refl; can = ready.fits.can; phase = inr access };
              stands = removes.stands st ready.stands f.processor;
              next = refl;
              found = record {
                resting = removes.resting;
                must = λ p copies. absurd
                    (none-some p (sym (copies_none (call_in f.purpose) access) ∙ copies));
              };
              keeps = inl (keeps_fault f count ∙ ap Some (on ∙ sym removes.gave.same.number));
            });
      }

pub frame_unfilled : (f : Flight) (page frame count : ℕ) (was : SpaceAndFrames) (now : Kept) → f.phase ≡ Unfill page frame count
    → AreAgreed was.space was.frames → (given : ℕ) → Removes was.space now page given → (st : SpaceState) → IsReady f was.space st
    → Makes f (with_phase f (Fault (space_of_call (call_in f.purpose)) count)) was.space now st was.frames
    (counted (give_page was.frames (space_of_call (call_in f.purpose)) page))
    (give_entry f.processor (space_of_call (call_in f.purpose)) page given)
frame_unfilled f page frame count was now phase agree given removes st =
    by_ready f (Unfill page frame count) was.space st refl phase
    (λ g to. Makes g (to (Fault (space_of_call (call_in f.purpose)) count)) was.space now st was.frames
    (counted (give_page was.frames (space_of_call (call_in f.purpose)) page))
    (give_entry f.processor (space_of_call (call_in f.purpose)) page given))
    (λ ready. Makes-unfill f page frame count was now st ready agree given removes)
