-- Steps that answer a flight's call.
use Rattle.std.proofs.Common.{◌≡◌, ◌≢◌, ℕ, ◌+◌, ◌<◌, Bool, true, false, ◌&&◌, is_some, None, Some, refl, ap, sym, subst, ◌∙◌, inl, inr, arith}
use Rattle.std.proofs.lemmas.Bool.{and_from, eq-eqb, false≢true}
use Rattle.std.proofs.lemmas.Option.{same_Some}
use Rattle.pager_model.specs.declared.call.Call.{Call}
use Rattle.pager_model.specs.declared.call.Call.TheVariants.{Load, Store}
use Rattle.pager_model.specs.declared.entry.Entry.{Entry}
use Rattle.pager_model.specs.declared.entry.What.TheVariants.{Answer}
use Rattle.pager_model.specs.declared.reply.Answered.{Answered}
use Rattle.pager_model.specs.declared.reply.Reply.{Reply}
use Rattle.pager_model.specs.declared.reply.Reply.TheVariants.{NoMemory}
use Rattle.pager_model.specs.Flat.{space_of_call, page_of, can_read, can_write}
use Rattle.pager_model.specs.FrameStates.{FrameState, FramesAllow}
use Rattle.pager_model.specs.Order.{Progress, may_answer, is_access, is_access_at, is_answered_alone, is_plain, leads, Idle}
use Rattle.pager_model.specs.Regions.{region_at}
use Rattle.pager_model.specs.SpaceStates.{SpaceState, space_after, MayGoOn, WhatAllowed, access_page}
use Rattle.space_core.specs.declared.space.Begun.TheVariants.{Answered as HasAnswered}
use Rattle.space_core.specs.Beginning.{BeginsAnswered, ReadsIn, Finishes, SameRegions}
use Rattle.space_core.specs.Standing.{Kept, StandsFor, IsResting, copied_page, is_allowed, rights_at}
use Rattle.space_core.proofs.CopyCalls.{had_memory}
use Rattle.pager_model.specs.CallEntries.{answer_entry}
use Rattle.flight_core.specs.declared.flight.Flight.{Flight}
use Rattle.flight_core.specs.declared.flight.Phase.{Phase}
use Rattle.flight_core.specs.declared.flight.Phase.TheVariants.{Start, Fill, Late, Ended}
use Rattle.flight_core.specs.Flights.{IsReady, PhaseFits}
use Rattle.flight_core.specs.Rows.{call_in, claimed_in, row_of, access_of}
use Rattle.flight_core.specs.Steps.{Makes, SameSpace, after_frames}
use Rattle.flight_core.proofs.EntrySteps.{Leaves-on, same_space, same_space-on}
use Rattle.flight_core.proofs.Purposes.{in_phase, with_phase, is_of_calls, same_work, by_ready}

-- a flight's answer, which names the frames or not
abbrev pub ending : Flight → Answered → Bool → Entry
ending f a named = record {
  processor = f.processor;
  space = Some (space_of_call (call_in f.purpose));
  frames = named;
  what = Answer f.number (call_in f.purpose) a;
}

-- An answer ends its flight where it may come in the flight's phase,
pub record MayEnd (f : Flight) (from : Phase) (a : Answered) : Type 0 where
  pub goes_on : MayGoOn (row_of (in_phase f from)).next f.processor (Answer f.number (call_in f.purpose) a)
  pub made : (row_of (in_phase f from)).progress.made ≡ f.number
  pub may : may_answer (row_of (in_phase f from)).progress.doing (call_in f.purpose) a.reply ≡ true
  pub some : 0 < (row_of (in_phase f from)).entries

-- and where its space allows it, and then stands for it at rest.
pub record IsAnswered (f : Flight) (a : Answered) (named : Bool) (was now : Kept) (st : SpaceState) : Type 0 where
  pub on : space_of_call (call_in f.purpose) ≡ was.number
  pub same_space : SameSpace was now
  pub resting : IsResting now
  pub allowed : WhatAllowed st named f.processor (Answer f.number (call_in f.purpose) a)
  pub stands : StandsFor now (space_after st (ending f a named))

module _ (f : Flight) (from : Phase) (a : Answered) (was now : Kept) (st : SpaceState) where
  pub Makes-ending :
      (named : Bool) → IsReady (in_phase f from) was st → MayEnd f from a → IsAnswered f a named was now st
      → (before after : FrameState) → (named ≡ true → FramesAllow before 0 f.processor (Some (space_of_call (call_in f.purpose)))
      (Answer f.number (call_in f.purpose) a))
      → after ≡ after_frames before (ending f a named)
      → Makes (in_phase f from) (in_phase f (Ended a.reply)) was now st before after (ending f a named)
  Makes-ending named ready ends answered before after frames_allow frames_after = record {
    entry = record {
      same_work = same_work f from (Ended a.reply);
      processor = refl;
      parts = refl;
      frames_allow = frames_allow;
      frames_after = frames_after;
      in_order =
          ap (λ b. leads b ((row_of (in_phase f from)).progress.made + 1) Idle)
          (and_from _ _ (eq-eqb f.number (row_of (in_phase f from)).progress.made (sym ends.made)) ends.may)
          ∙ ap (λ n. Some (let p : Progress = record { made = n + 1; doing = Idle } in p)) ends.made;
      reply = refl;
      answer = refl;
      between = refl;
      fewer = ends.some;
    };
    space = Leaves-on (ending f a named) (ap Some answered.on) answered.same_space ready.next ends.goes_on answered.allowed (record {
      fits = record { kind = refl; can = ready.fits.can; phase = tt };
      stands = answered.stands;
      next = refl;
      found = answered.resting;
      keeps = inr (refl, refl, answered.resting);
    });
  }

-- so it does in a phase of a call, where it leaves the frames alone
pub answered_in : (f : Flight) (from : Phase) (a : Answered) (was now : Kept) → is_of_calls from ≡ true → f.phase ≡ from
    → ((st : SpaceState) → IsReady (in_phase f from) was st → MayEnd f from a × IsAnswered f a false was now st)
    → (st : SpaceState) (frames : FrameState) → IsReady f was st
    → Makes f (with_phase f (Ended a.reply)) was now st frames frames (answer_entry f.processor f.number (call_in f.purpose) a)
answered_in f from a was now only phase ends st frames =
    by_ready f from was st only phase (λ g to. Makes g (to (Ended a.reply)) was now st frames frames
    (answer_entry f.processor f.number (call_in f.purpose) a))
    (λ ready. (let end = ends st ready in
    Makes-ending f from a was now st false ready end.0 end.1 frames frames (λ named. absurd (false≢true named)) refl))

-- an answer with which the call begins
IsAnswered-begun : (f : Flight) (a : Answered) (was now : Kept) (st : SpaceState) → space_of_call (call_in f.purpose) ≡ was.number
    → StandsFor was st → BeginsAnswered was now f.processor (call_in f.purpose) a → IsAnswered f a false was now st
IsAnswered-begun f a was now st on stands begins = record {
  on = on;
  same_space = record { number = begins.same_number; frames = begins.same_frames; processors = begins.same_processors };
  resting = begins.resting;
  allowed = begins.answers.allowed st stands f.number;
  stands = begins.answers.stands st stands f.number;
}

-- Start: the call is answered at once
pub start_answered : (f : Flight) (a : Answered) (was now : Kept) → f.phase ≡ Start
    → BeginsAnswered was now f.processor (call_in f.purpose) a → (st : SpaceState) (frames : FrameState) → IsReady f was st
    → Makes f (with_phase f (Ended a.reply)) was now st frames frames (answer_entry f.processor f.number (call_in f.purpose) a)
start_answered f a was now phase begins =
    answered_in f Start a was now refl phase
    (λ st ready. (
      record { goes_on = tt; made = refl; may = begins.alone; some = omega arith },
      IsAnswered-begun f a was now st (same_Some _ _ ready.under) ready.stands begins,
    ))

-- a load or a store is the access that it makes
pub is_access_of : (call : Call) (claimed : Bool) → is_access call ≡ true → is_access_at (access_of call claimed) call ≡ true
is_access_of (Load space address) true is = and_from _ _ (and_from _ _ (eq-eqb space space refl)
    (eq-eqb (page_of address) (page_of address) refl)) refl
is_access_of (Load space address) false is = and_from _ _ (and_from _ _ (eq-eqb space space refl)
    (eq-eqb (page_of address) (page_of address) refl)) refl
is_access_of (Store space address word) true is = and_from _ _ (and_from _ _ (eq-eqb space space refl)
    (eq-eqb (page_of address) (page_of address) refl)) refl
is_access_of (Store space address word) false is = and_from _ _ (and_from _ _ (eq-eqb space space refl)
    (eq-eqb (page_of address) (page_of address) refl)) refl
is_access_of call claimed is = absurd (false≢true is)

-- a call that has an access's page is one
pub is_access_by_page : (call : Call) (page : ℕ) → access_page call ≡ Some page → is_access call ≡ true
is_access_by_page (Load space address) page is = refl
is_access_by_page (Store space address word) page is = refl
is_access_by_page call page is = cc

-- what rights allow depends on the regions and the rights alone
pub allowed-same : (was now : Kept) (call : Call) → SameRegions was now → is_allowed now call ≡ is_allowed was call
allowed-same was now (Load space address) same =
    ap (λ rs. is_some (region_at rs (page_of address)) && can_read (rights_at now (page_of address))) same.regions
    ∙ ap (λ r. is_some (region_at was.regions (page_of address)) && can_read r) (same.rights (page_of address))
allowed-same was now (Store space address word) same =
    ap (λ rs. is_some (region_at rs (page_of address)) && can_write (rights_at now (page_of address))) same.regions
    ∙ ap (λ r. is_some (region_at was.regions (page_of address)) && can_write r) (same.rights (page_of address))
allowed-same was now call same = refl

-- what answers a load or a store alone is plain
alone_plain : (call : Call) (reply : Reply) → is_access call ≡ true → is_answered_alone call reply ≡ true → is_plain reply ≡ true
alone_plain (Load space address) reply is alone = alone
alone_plain (Store space address word) reply is alone = alone
alone_plain call reply is alone = absurd (false≢true is)

-- Late: the access is answered, as it would be if it began now
pub late_answered : (f : Flight) (a : Answered) (was now : Kept) → f.phase ≡ Late → BeginsAnswered was now f.processor (call_in f.purpose) a
    → (st : SpaceState) (frames : FrameState) → IsReady f was st
    → Makes f (with_phase f (Ended a.reply)) was now st frames frames (answer_entry f.processor f.number (call_in f.purpose) a)
late_answered f a was now phase begins =
    answered_in f Late a was now refl phase
    (λ st ready. (
      record {
        goes_on = tt;
        made = refl;
        may = and_from _ _ (is_access_of (call_in f.purpose) (claimed_in f.purpose) ready.fits.phase)
            (alone_plain (call_in f.purpose) a.reply ready.fits.phase begins.alone);
        some = omega arith;
      },
      IsAnswered-begun f a was now st (same_Some _ _ ready.under) ready.stands begins,
    ))

-- a load or a store copies no page,
uncopied : (call : Call) → is_access call ≡ true → copied_page call ≡ None
uncopied (Load space address) access = refl
uncopied (Store space address word) access = refl
uncopied call access = absurd (false≢true access)

-- so it isn't for want of memory
pub late_has_memory : (f : Flight) (a : Answered) (was now : Kept) → f.phase ≡ Late → PhaseFits f.purpose f.phase
    → BeginsAnswered was now f.processor (call_in f.purpose) a → a.reply ≢ NoMemory
late_has_memory f a was now phase fits begins =
    had_memory was now f.processor (call_in f.purpose) (HasAnswered a)
    (uncopied (call_in f.purpose) (subst (PhaseFits f.purpose) phase fits)) begins

-- the page is read in, and then the access is served
pub record Fills (was now : Kept) (f : Flight) (a : Answered) : Type 0 where
  pub filled : Kept
  pub reads : ReadsIn was filled
  pub finishes : Finishes filled now f.processor (call_in f.purpose) a

-- Fill: the access is served
pub fill_answered : (f : Flight) (page frame : ℕ) (a : Answered) (was now : Kept) → f.phase ≡ Fill page frame → Fills was now f a
    → (st : SpaceState) (frames : FrameState) → IsReady f was st
    → Makes f (with_phase f (Ended a.reply)) was now st frames frames (answer_entry f.processor f.number (call_in f.purpose) a)
fill_answered f page frame a was now phase fills =
    let reads = fills.reads in
    let finishes = fills.finishes in
    answered_in f (Fill page frame) a was now refl phase
    (λ st ready. (
      record {
        goes_on = refl;
        made = refl;
        may = and_from _ _ (is_access_of (call_in f.purpose) (claimed_in f.purpose)
            (is_access_by_page (call_in f.purpose) page ready.found.lawful.page_is)) finishes.served;
        some = omega arith;
      },
      record {
        on = same_Some _ _ ready.under;
        same_space = same_space-on (same_space reads.same.same) (same_space finishes.same.same);
        resting = finishes.resting;
        allowed = finishes.answers.allowed st (reads.stands st ready.stands) f.number;
        stands = finishes.answers.stands st (reads.stands st ready.stands) f.number;
      },
    ))
