-- A call that can't be served is answered so: no frame could be had, a store failed, there was no memory, or a frame that it is to wire
-- is claimed.
use Rattle.std.proofs.Common.{◌≡◌, ℕ, Bool, true, false, is_some, Option, Some, None, option_map, refl, ap, sym, subst, ◌∙◌, inl, inr, arith}
use Rattle.std.specs.Option.{IsSome}
use Rattle.std.proofs.lemmas.Bool.{cond-true, cond-false, and_from, and_parts, eq-eqb, not-true, false≢true}
use Rattle.std.proofs.lemmas.Option.{same_Some}
use Rattle.pager_model.specs.declared.call.Call.{Call}
use Rattle.pager_model.specs.declared.call.Call.TheVariants.{Load, Store, Sync, Evict}
use Rattle.pager_model.specs.declared.entry.What.TheVariants.{Answer}
use Rattle.pager_model.specs.declared.region.Region.{Region}
use Rattle.pager_model.specs.declared.reply.Answered.{Answered}
use Rattle.pager_model.specs.declared.reply.Reply.{Reply}
use Rattle.pager_model.specs.declared.reply.Reply.TheVariants.{Done, Value, Written, NoFrames, StoreFault, NoMemory, Busy as SaysBusy}
use Rattle.pager_model.specs.declared.tile.Tile.{Tile}
use Rattle.pager_model.specs.Flat.{access_reply, evict_reply, sync_reply, can_read, can_write, is_lawful, page_of, reply_of, space_of_call, word_of}
use Rattle.pager_model.specs.FrameStates.{FrameState}
use Rattle.pager_model.specs.Images.{is_in_image}
use Rattle.pager_model.specs.Order.{is_access, may_answer}
use Rattle.pager_model.specs.Regions.{is_wired, region_at}
use Rattle.pager_model.specs.SpaceStates.{SpaceState, LacksItsPage, MayFail, ReplyAllowed, answered_flat, tile_at, pages_of, pages_after}
use Rattle.pager_model.proofs.SpaceEntries.{base-unnamed, frees-unlawful, said-unlawful, served-unlawful}
use Rattle.space_core.specs.Standing.{Kept, IsResting, MustWrite, StandsFor, copied_page, is_allowed, is_in, is_unwired, rights_at}
use Rattle.pager_model.specs.CallEntries.{answer_entry}
use Rattle.flight_core.specs.declared.flight.Flight.{Flight}
use Rattle.flight_core.specs.declared.flight.Phase.{Phase}
use Rattle.flight_core.specs.declared.flight.Phase.TheVariants.{Short, Fault, Lack, Busy, Ended}
use Rattle.flight_core.specs.Flights.{IsReady}
use Rattle.flight_core.specs.Rows.{access_in, access_of, call_in, claimed_in, faulted}
use Rattle.flight_core.specs.Steps.{Makes, Refuses}
use Rattle.flight_core.proofs.AnswerSteps.{MayEnd, IsAnswered, answered_in, is_access_by_page, is_access_of}
use Rattle.flight_core.proofs.EntrySteps.{unchanged}
use Rattle.flight_core.proofs.NextFlights.{under_fault}
use Rattle.flight_core.proofs.PinSteps.{is_pinning-for}
use Rattle.flight_core.proofs.Purposes.{in_phase, with_phase}
use Rattle.flight_core.proofs.UnchangedSpaces.{unchanged_stands}

-- What such an answer does: nothing.

-- an answer with no more to it than its reply
abbrev pub refusal : Reply → Answered
refusal reply = record { reply = reply; hit = false; size = None }

IsAnswered-refusal : (f : Flight) (reply : Reply) (kept : Kept) (st : SpaceState) → StandsFor kept st
    → space_of_call (call_in f.purpose) ≡ kept.number → IsResting kept → is_lawful reply ≡ false
    → answered_flat st.flat (call_in f.purpose) reply ≡ st.flat → ReplyAllowed st f.processor (call_in f.purpose) reply
    → IsAnswered f (refusal reply) false kept kept st
IsAnswered-refusal f reply kept st stands on resting unlawful same allowed = record {
  on = on;
  same_space = unchanged kept;
  resting = resting;
  allowed = record {
    reply = allowed;
    parts = frees-unlawful st (call_in f.purpose) reply unlawful;
    hit = ap (λ (o : Option ℕ). is_in_image (st.images f.processor) (tile_at st.sizes (pages_of st) o))
        (sym (served-unlawful (call_in f.purpose) reply unlawful));
    size = ap (λ (o : Option ℕ). option_map (λ (t : Tile). t.extent.size)
        (tile_at st.sizes (pages_after st false (Answer f.number (call_in f.purpose) (refusal reply))) o))
        (sym (served-unlawful (call_in f.purpose) reply unlawful));
  };
  stands =
      unchanged_stands kept st (answer_entry f.processor f.number (call_in f.purpose) (refusal reply)) stands same
      (base-unnamed st.base (call_in f.purpose)) (λ p i. said-unlawful p i (call_in f.purpose) reply (st.tied p i) unlawful) refl
      (ap (tile_at st.sizes (pages_after st false (Answer f.number (call_in f.purpose) (refusal reply))))
      (served-unlawful (call_in f.purpose) reply unlawful));
}

-- No frame could be had.

-- an access to a page with a region and the right is lawful
lawful-access : (region : Option Region) (allowed : Bool) (reply : Reply) → is_some region ≡ true → allowed ≡ true → is_lawful reply ≡ true
    → is_lawful (access_reply region allowed reply) ≡ true
lawful-access None allowed reply has may is = absurd (false≢true has)
lawful-access (Some r) false reply has may is = absurd (false≢true may)
lawful-access (Some r) true reply has may is = is

-- so one that the space allows is, for every state that it stands for
pub lawful-allowed : (kept : Kept) (st : SpaceState) (call : Call) → StandsFor kept st → is_allowed kept call ≡ true
    → is_lawful (reply_of st.flat call) ≡ true
lawful-allowed kept st (Load space address) stands is =
    let parts = and_parts (is_some (region_at kept.regions (page_of address))) (can_read (rights_at kept (page_of address))) is in
    lawful-access (region_at st.flat.regions (page_of address)) (can_read (st.flat.rights (page_of address)))
    (Value (st.flat.words (page_of address) (word_of address)))
    (ap (λ rs. is_some (region_at rs (page_of address))) stands.beside.regions ∙ parts.0)
    (ap can_read (stands.beside.rights (page_of address) parts.0) ∙ parts.1) refl
lawful-allowed kept st (Store space address word) stands is =
    let parts = and_parts (is_some (region_at kept.regions (page_of address))) (can_write (rights_at kept (page_of address))) is in
    lawful-access (region_at st.flat.regions (page_of address)) (can_write (st.flat.rights (page_of address))) Done
    (ap (λ rs. is_some (region_at rs (page_of address))) stands.beside.regions ∙ parts.0)
    (ap can_write (stands.beside.rights (page_of address) parts.0) ∙ parts.1) refl
lawful-allowed kept st call stands is = absurd (false≢true is)

-- the flight ends with such an answer
abbrev IsRefused : Flight → Phase → Reply → Kept → SpaceState → Type 0
IsRefused f from reply kept st = MayEnd f from (refusal reply) × IsAnswered f (refusal reply) false kept kept st

ends_no_frames : (f : Flight) (wired claimed held : ℕ) (kept : Kept) (st : SpaceState)
    → IsReady (in_phase f (Short wired claimed held)) kept st
    → IsRefused f (Short wired claimed held) (NoFrames wired claimed held) kept st
ends_no_frames f wired claimed held kept st ready =
    let page = ready.found.0 in
    let lacks = ready.found.1 in (
      record {
        goes_on = tt;
        made = refl;
        may = and_from _ _ (is_access_by_page (call_in f.purpose) page lacks.lawful.page_is)
            (and_from _ _ (eq-eqb wired wired refl) (and_from _ _ (eq-eqb claimed claimed refl) (eq-eqb held held refl)));
        some = omega arith;
      },
      IsAnswered-refusal f (NoFrames wired claimed held) kept st ready.stands (same_Some _ _ ready.under) lacks.resting refl refl (
        lawful-allowed kept st (call_in f.purpose) ready.stands lacks.lawful.allowed,
        subst (LacksItsPage st.base) (sym lacks.lawful.page_is) (ready.stands.base page ∙ lacks.absent),
      ),
    )

-- A store failed.

-- a load or a store may meet it
MayFail-access : (st : SpaceState) (call : Call) → is_access call ≡ true → MayFail st call
MayFail-access st (Load space address) is = tt
MayFail-access st (Store space address word) is = tt
MayFail-access st call is = absurd (false≢true is)

-- a sync and an evict of a dirty page are written
sync_written : (region : Option Region) (dirty : Bool) → is_some region ≡ true → dirty ≡ true → sync_reply region dirty ≡ Written
sync_written None dirty has is = absurd (false≢true has)
sync_written (Some r) false has is = absurd (false≢true is)
sync_written (Some r) true has is = refl

evict_written : (region : Option Region) (dirty : Bool) → is_unwired region ≡ true → dirty ≡ true → evict_reply region dirty ≡ Written
evict_written None dirty unwired is = absurd (false≢true unwired)
evict_written (Some r) dirty unwired is = cond-false _ _ _ (not-true (is_wired r) unwired) ∙ cond-true dirty _ _ is

-- so they may meet it where they have to write their page
MayFail-copying : (kept : Kept) (st : SpaceState) (call : Call) → StandsFor kept st → IsResting kept → IsSome (copied_page call)
    → ((page : ℕ) → copied_page call ≡ Some page → MustWrite kept call page) → MayFail st call
MayFail-copying kept st (Sync space page) stands resting is must =
    let here = must page refl in
    sync_written (region_at st.flat.regions page) (st.flat.dirty page)
    (ap (λ rs. is_some (region_at rs page)) stands.beside.regions ∙ here.may)
    (stands.beside.dirty page (ap (λ o. is_in o page) resting.none_clearing) ∙ here.dirty)
MayFail-copying kept st (Evict space page) stands resting is must =
    let here = must page refl in
    evict_written (region_at st.flat.regions page) (st.flat.dirty page)
    (ap (λ rs. is_unwired (region_at rs page)) stands.beside.regions ∙ here.may)
    (stands.beside.dirty page (ap (λ o. is_in o page) resting.none_clearing) ∙ here.dirty)
MayFail-copying kept st call stands resting is must = absurd (false≢true is)

-- and it is their answer: to an access, wherever it failed
may_fault-access : (call : Call) (claimed : Bool) (space count : ℕ) → is_access call ≡ true
    → may_answer (faulted (access_of call claimed) space count (copied_page call)) call (StoreFault space count) ≡ true
may_fault-access (Load s address) claimed space count is = and_from _ _ (is_access_of (Load s address) claimed is)
    (and_from _ _ (eq-eqb space space refl) (eq-eqb count count refl))
may_fault-access (Store s address word) claimed space count is = and_from _ _ (is_access_of (Store s address word) claimed is)
    (and_from _ _ (eq-eqb space space refl) (eq-eqb count count refl))
may_fault-access call claimed space count is = absurd (false≢true is)

-- and to the others in their own space
may_fault-copying : (call : Call) (claimed : Bool) (space count : ℕ) → space ≡ space_of_call call → IsSome (copied_page call)
    → may_answer (faulted (access_of call claimed) space count (copied_page call)) call (StoreFault space count) ≡ true
may_fault-copying (Sync s page) claimed space count same is =
    and_from _ _ (and_from _ _ (eq-eqb s space (sym same)) (eq-eqb page page refl))
    (and_from _ _ (eq-eqb space space refl) (eq-eqb count count refl))
may_fault-copying (Evict s page) claimed space count same is =
    and_from _ _ (and_from _ _ (eq-eqb s space (sym same)) (eq-eqb page page refl))
    (and_from _ _ (eq-eqb space space refl) (eq-eqb count count refl))
may_fault-copying call claimed space count same is = absurd (false≢true is)

ends_fault : (f : Flight) (space count : ℕ) (kept : Kept) (st : SpaceState) → IsReady (in_phase f (Fault space count)) kept st
    → IsRefused f (Fault space count) (StoreFault space count) kept st
ends_fault f space count kept st ready =
    let found = ready.found in
    let meets : MayFail st (call_in f.purpose) ×
    (may_answer (faulted (access_in f.purpose) space count (copied_page (call_in f.purpose))) (call_in f.purpose)
    (StoreFault space count) ≡ true) = elim ready.fits.phase [
      | inl own ↦ (
        MayFail-copying kept st (call_in f.purpose) ready.stands found.resting own.1 found.must,
        may_fault-copying (call_in f.purpose) (claimed_in f.purpose) space count own.0 own.1,
      )
      | inr access ↦ (
        MayFail-access st (call_in f.purpose) access,
        may_fault-access (call_in f.purpose)
            (claimed_in f.purpose) space count access,
      )
    ] in
    let on : space_of_call (call_in f.purpose) ≡ kept.number =
    same_Some _ _ (sym (under_fault (Some (space_of_call (call_in f.purpose))) (access_in f.purpose) space count
    (copied_page (call_in f.purpose))) ∙ ready.under) in (
      record { goes_on = tt; made = refl; may = meets.1; some = omega arith },
      IsAnswered-refusal f (StoreFault space count) kept st ready.stands on found.resting refl refl meets.0,
    )

-- There was no memory.
ends_no_memory : (f : Flight) (space : ℕ) (kept : Kept) (st : SpaceState) → IsReady (in_phase f (Lack space)) kept st
    → IsRefused f (Lack space) NoMemory kept st
ends_no_memory f space kept st ready = (
  record {
    goes_on = tt;
    made = refl;
    may = and_from _ _ (is_access_of (call_in f.purpose) (claimed_in f.purpose) ready.fits.phase) refl;
    some = omega arith;
  },
  IsAnswered-refusal f NoMemory kept st ready.stands (same_Some _ _ ready.under) ready.found refl refl
      (MayFail-access st (call_in f.purpose) ready.fits.phase),
)

-- A frame that the call is to wire is claimed.
ends_busy : (f : Flight) (first len page : ℕ) (kept : Kept) (st : SpaceState) → IsReady (in_phase f (Busy first len page)) kept st
    → IsRefused f (Busy first len page) (SaysBusy page) kept st
ends_busy f first len page kept st ready = (
  record {
    goes_on = refl;
    made = refl;
    may = and_from _ _ (is_pinning-for kept.regions (call_in f.purpose) first len true ready.found.pinning.is_for) (eq-eqb page page refl);
    some = omega arith;
  },
  IsAnswered-refusal f (SaysBusy page) kept st ready.stands (same_Some _ _ ready.under) ready.found.resting refl refl tt,
)

-- A flight that can't be served answers so.
pub refused : (f : Flight) (reply : Reply) → Refuses f reply → (kept : Kept) (st : SpaceState) (frames : FrameState) → IsReady f kept st
    → Makes f (with_phase f (Ended reply)) kept kept st frames frames
    (answer_entry f.processor f.number (call_in f.purpose) (refusal reply))
refused f (NoFrames wired claimed held) phase = λ kept.
    answered_in f (Short wired claimed held) (refusal (NoFrames wired claimed held)) kept kept refl phase
    (ends_no_frames f wired claimed held kept)
refused f (StoreFault space count) phase = λ kept.
    answered_in f (Fault space count) (refusal (StoreFault space count)) kept kept refl phase (ends_fault f space count kept)
refused f NoMemory phase = λ kept.
    answered_in f (Lack phase.0) (refusal NoMemory) kept kept refl phase.1 (ends_no_memory f phase.0 kept)
refused f (SaysBusy page) phase = λ kept.
    answered_in f (Busy phase.0 phase.1 page) (refusal (SaysBusy page)) kept kept refl phase.2
    (ends_busy f phase.0 phase.1 page kept)
refused f reply phase = absurd phase
