-- A victim's page is paged out, and gives its frame up.
use Rattle.std.proofs.Common.{◌≡◌, ℕ, Bool, true, Some, None, refl, ap, sym, ◌∙◌, inl, arith}
use Rattle.std.proofs.lemmas.Bool.{and_from, eq-eqb}
use Rattle.std.proofs.lemmas.Option.{same_Some}
use Rattle.pager_model.specs.declared.entry.Victim.{Victim}
use Rattle.pager_model.specs.FrameStates.{FrameState, counted, frame_of, give_page}
use Rattle.pager_model.specs.Order.{Emptied, Holding, Unwritten, is_victim, leads}
use Rattle.pager_model.specs.SpaceStates.{SpaceState}
use Rattle.space_core.specs.Beginning.{FailsToWrite, LeavesUnwritten, Removes, SameFrames, WritesOut}
use Rattle.space_core.specs.Standing.{Kept, IsResting}
use Rattle.pager_model.specs.CallEntries.{failed_entry, give_entry, out_entry}
use Rattle.flight_core.specs.declared.flight.Flight.{Flight}
use Rattle.flight_core.specs.declared.flight.Phase.TheVariants.{Write, Hand, Unclaim}
use Rattle.flight_core.specs.Flights.{HasVictim, IsReady}
use Rattle.flight_core.specs.Rows.{claims_for, won}
use Rattle.flight_core.specs.Steps.{AreAgreed, Makes, Passes}
use Rattle.flight_core.proofs.EntrySteps.{Leaves-by, Leaves-on, same_space}
use Rattle.flight_core.proofs.Evictions.{Fits-on, LeftBy-won, won-row}
use Rattle.flight_core.proofs.MadeEntries.{made_in_space, made_on_frames}
use Rattle.flight_core.proofs.Purposes.{in_its_phase, left_by-less, same_kind_of_work, with_phase}

-- a victim is its own page
is_own_victim : (v : Victim) → is_victim v v.space v.page ≡ true
is_own_victim v = and_from _ _ (eq-eqb v.space v.space refl) (eq-eqb v.page v.page refl)

-- Write: what the write of the victim's page leads to
module _ (f : Flight) (v : Victim) (was now : Kept) (st : SpaceState) where
  -- the victim's page keeps its frame
  still_victim : HasVictim was v → SameFrames was now → IsResting now → HasVictim now v
  still_victim has same resting = record { resting = resting; place = same.frame v.page ∙ has.place }

  -- the page is equal to its copy
  Makes-out : (written : Bool) → IsReady (with_phase f (Write v)) was st → WritesOut was now v.page written → (frames : FrameState)
      → Makes (with_phase f (Write v)) (with_phase f (Hand v)) was now st frames frames (out_entry f.processor v.space v.page written)
  Makes-out written ready out frames =
      let on : v.space ≡ was.number = same_Some _ _ ready.under in
      record {
        entry = made_in_space (record {
          same_work = same_kind_of_work f (Write v) (Hand v);
          in_order = ap (λ b. leads b f.number (Emptied (claims_for f.purpose) v)) (is_own_victim v);
          fewer = left_by-less f.purpose 6 7 2 3 4 (omega arith) (omega arith);
          on_way = refl;
          no_answer = refl;
        }) ((v.space, refl), refl);
        space =
            Leaves-on (out_entry f.processor v.space v.page written) (ap Some on) (same_space out.same.same) ready.next tt
            (out.allowed st ready.stands f.processor)
            (record {
              fits = Fits-on f (Write v) (Hand v) refl refl ready.fits ready.fits.phase;
              stands = out.stands st ready.stands f.processor;
              next = refl;
              found = record { has = still_victim ready.found out.same out.resting; clean = out.clean };
              keeps = inl (ap Some (on ∙ sym out.same.same.number));
            });
      }

  -- the write failed
  Makes-failed : (count : ℕ) → IsReady (with_phase f (Write v)) was st → FailsToWrite was now v.page count → (frames : FrameState)
      → Makes (with_phase f (Write v)) (with_phase f (Unclaim v (Some count))) was now st frames frames
      (failed_entry f.processor v.space v.page true count)
  Makes-failed count ready fails frames =
      let on : v.space ≡ was.number = same_Some _ _ ready.under in
      record {
        entry = made_in_space (record {
          same_work = same_kind_of_work f (Write v) (Unclaim v (Some count));
          in_order = ap (λ b. leads b f.number (Unwritten (claims_for f.purpose) v count)) (is_own_victim v);
          fewer = left_by-less f.purpose 6 7 2 3 4 (omega arith) (omega arith);
          on_way = refl;
          no_answer = refl;
        }) ((v.space, refl), refl);
        space =
            Leaves-on (failed_entry f.processor v.space v.page true count) (ap Some on) (same_space fails.same.same) ready.next tt
            (fails.allowed st ready.stands f.processor)
            (record {
              fits = Fits-on f (Write v) (Unclaim v (Some count)) refl refl ready.fits ready.fits.phase;
              stands = fails.stands st ready.stands f.processor;
              next = refl;
              found = record { has = still_victim ready.found fails.same fails.resting; dirty = fails.dirty };
              keeps = inl (ap Some (on ∙ sym fails.same.same.number));
            });
      }

  -- there was no memory
  Passes-unwritten : IsReady (with_phase f (Write v)) was st → LeavesUnwritten was now v.page
      → Passes (with_phase f (Write v)) (with_phase f (Unclaim v None)) was now st
  Passes-unwritten ready leaves =
      let on : v.space ≡ was.number = same_Some _ _ ready.under in
      record {
        same_work = same_kind_of_work f (Write v) (Unclaim v None);
        same_space = same_space leaves.same.same;
        same_frames = leaves.same.frame;
        keeps = ap Some on;
        ready = record {
          under = ap Some (on ∙ sym leaves.same.same.number);
          fits = Fits-on f (Write v) (Unclaim v None) refl refl ready.fits ready.fits.phase;
          stands = leaves.stands st ready.stands;
          next = ready.next;
          found = record { has = still_victim ready.found leaves.same leaves.resting; dirty = leaves.dirty };
        };
        same_progress = refl;
        going = refl;
        memory = leaves.lacks;
        no_more = (let less = left_by-less f.purpose 6 7 2 3 4 (omega arith) (omega arith) in omega (arith, less));
      }

pub page_written : (f : Flight) (v : Victim) (written : Bool) (was now : Kept) → f.phase ≡ Write v → WritesOut was now v.page written
    → (st : SpaceState) (frames : FrameState) → IsReady f was st
    → Makes f (with_phase f (Hand v)) was now st frames frames (out_entry f.processor v.space v.page written)
page_written f v written was now phase out st frames =
    in_its_phase f (Write v) phase (λ g. IsReady g was st → Makes g (with_phase f (Hand v)) was now st frames frames
    (out_entry f.processor v.space v.page written))
    (λ ready. Makes-out f v was now st written ready out frames)

pub write_failed : (f : Flight) (v : Victim) (count : ℕ) (was now : Kept) → f.phase ≡ Write v → FailsToWrite was now v.page count
    → (st : SpaceState) (frames : FrameState) → IsReady f was st
    → Makes f (with_phase f (Unclaim v (Some count))) was now st frames frames (failed_entry f.processor v.space v.page true count)
write_failed f v count was now phase fails st frames =
    in_its_phase f (Write v) phase (λ g. IsReady g was st → Makes g (with_phase f (Unclaim v (Some count))) was now st frames frames
    (failed_entry f.processor v.space v.page true count))
    (λ ready. Makes-failed f v was now st count ready fails frames)

pub write_lacks_memory : (f : Flight) (v : Victim) (was now : Kept) → f.phase ≡ Write v → LeavesUnwritten was now v.page → (st : SpaceState)
    → IsReady f was st → Passes f (with_phase f (Unclaim v None)) was now st
write_lacks_memory f v was now phase leaves st =
    in_its_phase f (Write v) phase (λ g. IsReady g was st → Passes g (with_phase f (Unclaim v None)) was now st)
    (λ ready. Passes-unwritten f v was now st ready leaves)

-- Hand: the victim's page gives its frame up
module _ (f : Flight) (v : Victim) (frame : ℕ) (was now : Kept) (st : SpaceState) (before : FrameState) where
  Makes-hand :
      IsReady (with_phase f (Hand v)) was st → AreAgreed was before → Removes was now v.page frame
      → Makes (with_phase f (Hand v)) (with_phase f (won f.purpose v)) was now st before (counted (give_page before v.space v.page))
      (give_entry f.processor v.space v.page frame)
  Makes-hand ready agree removes =
      let on : v.space ≡ was.number = same_Some _ _ ready.under in
      let on_now : v.space ≡ now.number = on ∙ sym removes.gave.same.number in
      let row = won-row f v in
      record {
        entry = made_on_frames (record {
          same_work = same_kind_of_work f (Hand v) (won f.purpose v);
          in_order = ap (λ b. leads b f.number (Holding (claims_for f.purpose) v))
              (and_from _ _ (is_own_victim v) (eq-eqb frame v.frame (same_Some _ _ (sym removes.gave.had ∙ ready.found.has.place))))
              ∙ ap Some (sym row.progress);
          fewer = row.fewer;
          on_way = row.on_way;
          no_answer = refl;
        }) ((v.space, refl), refl) (ap (λ s. frame_of before s v.page) on ∙ sym (agree.pages v.page) ∙ removes.gave.had) refl;
        space =
            Leaves-by (give_entry f.processor v.space v.page frame) (ap Some on) (same_space removes.gave.same) ready.next refl
            (removes.allowed st ready.stands f.processor)
            (LeftBy-won f v now _ (Hand v) refl ready.fits ready.fits.phase on_now removes.resting
            (removes.stands st ready.stands f.processor) refl);
      }

pub frame_handed : (f : Flight) (v : Victim) (frame : ℕ) (was now : Kept) (before : FrameState) → f.phase ≡ Hand v → AreAgreed was before
    → Removes was now v.page frame → (st : SpaceState) → IsReady f was st
    → Makes f (with_phase f (won f.purpose v)) was now st before (counted (give_page before v.space v.page))
    (give_entry f.processor v.space v.page frame)
frame_handed f v frame was now before phase agree removes st =
    in_its_phase f (Hand v) phase (λ g. IsReady g was st
    → Makes g (with_phase f (won f.purpose v)) was now st before (counted (give_page before v.space v.page))
    (give_entry f.processor v.space v.page frame))
    (λ ready. Makes-hand f v frame was now st before ready agree removes)
