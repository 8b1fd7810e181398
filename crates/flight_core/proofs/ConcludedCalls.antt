-- Calls that are done once their range is cleared, or once the frames of their region are wired or are so no longer.
use Rattle.std.proofs.Common.{◌≡◌, ℕ, Bool, true, false, if◌then◌else◌, Option, List, Some, None, refl, ap, sym, subst, ◌∙◌, arith}
use Rattle.std.proofs.lemmas.Bool.{and_from, cond-false, eq-eqb}
use Rattle.std.proofs.lemmas.Option.{same_Some}
use Rattle.pager_model.specs.declared.call.Call.{Call}
use Rattle.pager_model.specs.declared.call.Call.TheVariants.{Unmap, Discard, Wire, Unwire}
use Rattle.pager_model.specs.declared.entry.What.TheVariants.{Answer}
use Rattle.pager_model.specs.declared.page_range.PageRange.{PageRange}
use Rattle.pager_model.specs.declared.region.Region.{Region}
use Rattle.pager_model.specs.declared.reply.Answered.{Answered}
use Rattle.pager_model.specs.declared.reply.Reply.TheVariants.{Done}
use Rattle.pager_model.specs.CallEntries.{answer_entry}
use Rattle.pager_model.specs.Flat.{space_of_call}
use Rattle.pager_model.specs.FrameStates.{FrameState}
use Rattle.pager_model.specs.Order.{is_done, is_pinning, may_answer}
use Rattle.pager_model.specs.Regions.{region_at, unwire_reply, unwire_reply_at, wire_reply, wire_reply_at}
use Rattle.pager_model.specs.SpaceStates.{SpaceState, AfterClear, AfterPin, IsClearingOf, IsPinnedAt, IsPinningOf, IsRegionOf, MayGoOn, MayPin, WhatAllowed, space_after}
use Rattle.space_core.specs.Beginning.{AreAbsent, Discarded, Pinned, Unmapped, pinning_call}
use Rattle.space_core.specs.Standing.{Kept, IsResting, StandsFor, range_of}
use Rattle.flight_core.specs.declared.flight.Flight.{Flight}
use Rattle.flight_core.specs.declared.flight.Phase.TheVariants.{Ended, Gone}
use Rattle.flight_core.specs.Flights.{HasCleared, IsReadied, IsReady, PhaseStands, WillPin}
use Rattle.flight_core.specs.Rows.{call_in, next_readied, pins, readied}
use Rattle.flight_core.specs.Steps.{Makes, SameSpace}
use Rattle.flight_core.proofs.AnswerSteps.{IsAnswered, MayEnd, answered_in}
use Rattle.flight_core.proofs.EntrySteps.{same_space}
use Rattle.flight_core.proofs.NextFlights.{under_gone}
use Rattle.flight_core.proofs.PinSteps.{in_region, is_pinning-for, pins-some, region-pinned}
use Rattle.flight_core.proofs.Purposes.{in_phase, with_phase}

-- What stands before the answer.

-- what the call's range was needed for was done
pub readied_for : (f : Flight) (first len : ℕ) (call : Call) (kept : Kept) (st : SpaceState) → f.phase ≡ Gone first len → IsReady f kept st
    → call_in f.purpose ≡ call → IsReadied call kept first len (pins call)
readied_for f first len call kept st phase ready is =
    subst (λ k. IsReadied k kept first len (pins k)) is (subst (PhaseStands (call_in f.purpose) kept) phase ready.found)

-- the region of the page is the range that was cleared
pub region_cleared : (kept : Kept) (page first len : ℕ) → IsRegionOf (region_at kept.regions page) first len
    → kept.clearing ≡ Some (range_of first len) → AreAbsent kept first len
    → (r : Region) × (region_at kept.regions page ≡ Some r) × (kept.clearing ≡ Some (range_of r.first r.length)) × AreAbsent kept r.first r.length
region_cleared kept page first len is clearing absent = by (region_at kept.regions page) is
  where
    by : (o : Option Region) → IsRegionOf o first len
        → (r : Region) × (o ≡ Some r) × (kept.clearing ≡ Some (range_of r.first r.length)) × AreAbsent kept r.first r.length
    by None is = absurd is
    by (Some r) is = (
      r,
      refl,
      clearing ∙ sym (ap (λ n. Some (range_of n r.length)) is.0 ∙ ap (λ n. Some (range_of first n)) is.1),
      subst (λ n. AreAbsent kept n r.length) (sym is.0) (subst (AreAbsent kept first) (sym is.1) absent),
    )

-- what may be pinned so is not refused
pub pin_done : (o : Option Region) (first len : ℕ) (wired : Bool) (regions : List Region) (page : ℕ) → region_at regions page ≡ o
    → MayPin o first len wired → (if wired then wire_reply regions page else unwire_reply regions page) ≡ Done
pin_done None first len wired regions page at may = absurd may
pin_done (Some r) first len true regions page at may = ap wire_reply_at at
pin_done (Some r) first len false regions page at may = ap unwire_reply_at at ∙ cond-false _ _ _ (may.2 refl)

-- The answer.

-- The call, which is the flight's, is answered so, once its range was cleared or pinned.
pub record Concludes (f : Flight) (first len : ℕ) (call : Call) (a : Answered) (was now : Kept) (st : SpaceState) : Type 0 where
  pub is : call_in f.purpose ≡ call
  pub goes_on : MayGoOn (next_readied f.processor first len (pins call)) f.processor (Answer f.number call a)
  pub may : may_answer (readied (space_of_call call) first len (pins call)) call a.reply ≡ true
  pub same_space : SameSpace was now
  pub resting : IsResting now
  pub allowed : WhatAllowed st false f.processor (Answer f.number call a)
  pub stands : StandsFor now (space_after st (answer_entry f.processor f.number call a))

ends_concluded : (f : Flight) (first len : ℕ) (call : Call) (a : Answered) (was now : Kept) (st : SpaceState)
    → IsReady (in_phase f (Gone first len)) was st → space_of_call (call_in f.purpose) ≡ was.number
    → Concludes f first len call a was now st → MayEnd f (Gone first len) a × IsAnswered f a false was now st
ends_concluded f first len call a was now st ready on concludes =
    let own : call ≡ call_in f.purpose = sym concludes.is in (
      record {
        goes_on = subst (λ k. MayGoOn (next_readied f.processor first len (pins k)) f.processor (Answer f.number k a)) own concludes.goes_on;
        made = refl;
        may = subst (λ k. may_answer (readied (space_of_call k) first len (pins k)) k a.reply ≡ true) own concludes.may;
        some = omega arith;
      },
      record {
        on = on;
        same_space = concludes.same_space;
        resting = concludes.resting;
        allowed = subst (λ k. WhatAllowed st false f.processor (Answer f.number k a)) own concludes.allowed;
        stands = subst (λ k. StandsFor now (space_after st (answer_entry f.processor f.number k a))) own concludes.stands;
      },
    )

-- Each call.

-- the space of a flight in Gone is its call's
on_gone : (f : Flight) (first len : ℕ) (kept : Kept) (st : SpaceState) → IsReady (in_phase f (Gone first len)) kept st
    → space_of_call (call_in f.purpose) ≡ kept.number
on_gone f first len kept st ready =
    same_Some _ _ (sym (under_gone (Some (space_of_call (call_in f.purpose))) (space_of_call (call_in f.purpose)) first len
    (pins (call_in f.purpose))) ∙ ready.under)

module _ (f : Flight) (first len page : ℕ) (a : Answered) (was now : Kept) (st : SpaceState) where
  -- the region is taken away
  Concludes-unmap : IsReady (in_phase f (Gone first len)) was st → call_in f.purpose ≡ Unmap was.number page → Unmapped was now page a
      → Concludes f first len (Unmap was.number page) a was now st
  Concludes-unmap ready is unmapped =
      let found : HasCleared (Unmap was.number page) was first len = subst (λ k. IsReadied k was first len (pins k)) is ready.found in
      let within = in_region was.regions page first len found.clears.is_for in
      let next : st.next ≡ AfterClear f.processor first len = ready.next ∙ ap (λ k. next_readied f.processor first len (pins k)) is in
      let region = region_cleared was page first len found.clears.is_for found.clearing found.none in
      let r : Region = region.0 in
      record {
        is = is;
        goes_on = (refl, subst (IsClearingOf first len (Unmap was.number page)) (sym unmapped.done) within);
        may = and_from _ _ (and_from _ _ (eq-eqb was.number was.number refl) within) (ap is_done unmapped.done);
        same_space = record { number = unmapped.same_number; frames = unmapped.same_frames; processors = unmapped.same_processors };
        resting = unmapped.resting;
        allowed = unmapped.allowed st ready.stands f.processor f.number r region.1
            (next ∙ ap (λ (range : PageRange). AfterClear f.processor range.first range.length) (same_Some _ _ (sym found.clearing ∙ region.2)));
        stands = unmapped.stands st ready.stands f.processor f.number;
      }

  -- the pages of the range are new
  Concludes-discard : (n : ℕ) → IsReady (in_phase f (Gone first len)) was st → call_in f.purpose ≡ Discard was.number page n
      → Discarded was now page n a → Concludes f first len (Discard was.number page n) a was now st
  Concludes-discard n ready is discarded =
      let found : HasCleared (Discard was.number page n) was first len = subst (λ k. IsReadied k was first len (pins k)) is ready.found in
      let same = found.clears.is_for in
      record {
        is = is;
        goes_on = (refl, subst (IsClearingOf first len (Discard was.number page n)) (sym discarded.done) (same.0, same.1));
        may = and_from _ _ (and_from _ _ (eq-eqb was.number was.number refl) (and_from _ _ (eq-eqb page first same.0) (eq-eqb n len same.1)))
            (ap is_done discarded.done);
        same_space = same_space discarded.same.same;
        resting = discarded.resting;
        allowed = discarded.allowed st ready.stands f.processor f.number;
        stands = discarded.stands st ready.stands f.processor f.number;
      }

-- What a wire or an unwire, whose region has this range, says of its page.
record Pinning (kept : Kept) (call : Call) (page first len : ℕ) (wired : Bool) : Type 0 where
  pub pins_is : pins call ≡ Some wired
  pub region : IsRegionOf (region_at kept.regions page) first len
  pub done : IsPinningOf first len wired call Done
  pub in_order : is_pinning (space_of_call call) first len wired call ≡ true

pinning : (kept : Kept) (page first len : ℕ) (wired : Bool)
    → IsReadied (pinning_call wired kept.number page) kept first len (pins (pinning_call wired kept.number page))
    → Pinning kept (pinning_call wired kept.number page) page first len wired
pinning kept page first len true found =
    let is = found.pinning.is_for in
    let region = region-pinned (region_at kept.regions page) first len true is.1 in
    record {
      pins_is = refl;
      region = region;
      done = (refl, in_region kept.regions page first len region);
      in_order = is_pinning-for kept.regions (Wire kept.number page) first len true is;
    }
pinning kept page first len false found =
    let is = found.pinning.is_for in
    let region = region-pinned (region_at kept.regions page) first len false is.1 in
    record {
      pins_is = refl;
      region = region;
      done = (refl, in_region kept.regions page first len region);
      in_order = is_pinning-for kept.regions (Unwire kept.number page) first len false is;
    }

-- its region was pinned just before
pinned_at : (o : Option Region) (st : SpaceState) (c first len : ℕ) (wired : Bool) → IsRegionOf o first len
    → st.next ≡ AfterPin c first len wired → IsPinnedAt st c wired o
pinned_at None st c first len wired is next = is
pinned_at (Some r) st c first len wired is next =
    next ∙ sym (ap (λ n. AfterPin c n r.length wired) is.0 ∙ ap (λ n. AfterPin c first n wired) is.1)

-- the region is pinned, or is so no longer
Concludes-pin : (f : Flight) (first len page : ℕ) (wired : Bool) (a : Answered) (was now : Kept) (st : SpaceState)
    → IsReady (in_phase f (Gone first len)) was st → call_in f.purpose ≡ pinning_call wired was.number page → Pinned was now page wired a
    → Concludes f first len (pinning_call wired was.number page) a was now st
Concludes-pin f first len page wired a was now st ready is pinned =
    let call = pinning_call wired was.number page in
    let pins_so : Pinning was call page first len wired =
    pinning was page first len wired (subst (λ k. IsReadied k was first len (pins k)) is ready.found) in
    let next : st.next ≡ AfterPin f.processor first len wired =
    ready.next ∙ ap (λ k. next_readied f.processor first len (pins k)) is ∙ ap (next_readied f.processor first len) pins_so.pins_is in
    record {
      is = is;
      goes_on = subst (λ o. MayGoOn (next_readied f.processor first len o) f.processor (Answer f.number call a)) (sym pins_so.pins_is)
          (refl, subst (IsPinningOf first len wired call) (sym pinned.done) pins_so.done);
      may = subst (λ o. may_answer (readied (space_of_call call) first len o) call a.reply ≡ true) (sym pins_so.pins_is)
          (and_from _ _ pins_so.in_order (ap is_done pinned.done));
      same_space = record { number = pinned.same_number; frames = pinned.same_frames; processors = pinned.same_processors };
      resting = pinned.resting;
      allowed = pinned.allowed st ready.stands f.processor f.number
          (pinned_at (region_at was.regions page) st f.processor first len wired pins_so.region next);
      stands = pinned.stands st ready.stands f.processor f.number;
    }

-- Gone.

-- the call of the space whose answer it is
own_call : (f : Flight) (space : ℕ) (kept : Kept) (call : ℕ → Call) → call_in f.purpose ≡ call space → space_of_call (call space) ≡ space
    → space_of_call (call_in f.purpose) ≡ kept.number → call_in f.purpose ≡ call kept.number
own_call f space kept call is of_space on = is ∙ ap call (sym of_space ∙ sym (ap space_of_call is) ∙ on)

module _ (f : Flight) (first len : ℕ) (a : Answered) (was now : Kept) where
  -- whichever call it is
  concluded : (call : Call)
      → ((st : SpaceState) → IsReady (in_phase f (Gone first len)) was st → space_of_call (call_in f.purpose) ≡ was.number
      → Concludes f first len call a was now st)
      → f.phase ≡ Gone first len → (st : SpaceState) (frames : FrameState) → IsReady f was st
      → Makes f (with_phase f (Ended a.reply)) was now st frames frames (answer_entry f.processor f.number (call_in f.purpose) a)
  concluded call concludes phase =
      answered_in f (Gone first len) a was now refl phase
      (λ st ready. (let on = on_gone f first len was st ready in
      ends_concluded f first len call a was now st ready on (concludes st ready on)))

  pub unmap_answered : (space page : ℕ) → call_in f.purpose ≡ Unmap space page → Unmapped was now page a → f.phase ≡ Gone first len
      → (st : SpaceState) (frames : FrameState) → IsReady f was st
      → Makes f (with_phase f (Ended a.reply)) was now st frames frames (answer_entry f.processor f.number (call_in f.purpose) a)
  unmap_answered space page is unmapped =
      concluded (Unmap was.number page)
      (λ st ready on. Concludes-unmap f first len page a was now st ready (own_call f space was (λ s. Unmap s page) is refl on) unmapped)

  pub discard_answered : (space page n : ℕ) → call_in f.purpose ≡ Discard space page n → Discarded was now page n a
      → f.phase ≡ Gone first len → (st : SpaceState) (frames : FrameState) → IsReady f was st
      → Makes f (with_phase f (Ended a.reply)) was now st frames frames (answer_entry f.processor f.number (call_in f.purpose) a)
  discard_answered space page n is discarded =
      concluded (Discard was.number page n)
      (λ st ready on. Concludes-discard f first len page a was now st n ready
      (own_call f space was (λ s. Discard s page n) is refl on) discarded)

  pub wire_answered : (space page : ℕ) → call_in f.purpose ≡ Wire space page → Pinned was now page true a → f.phase ≡ Gone first len
      → (st : SpaceState) (frames : FrameState) → IsReady f was st
      → Makes f (with_phase f (Ended a.reply)) was now st frames frames (answer_entry f.processor f.number (call_in f.purpose) a)
  wire_answered space page is pinned =
      concluded (Wire was.number page)
      (λ st ready on. Concludes-pin f first len page true a was now st ready (own_call f space was (λ s. Wire s page) is refl on) pinned)

  pub unwire_answered : (space page : ℕ) → call_in f.purpose ≡ Unwire space page → Pinned was now page false a → f.phase ≡ Gone first len
      → (st : SpaceState) (frames : FrameState) → IsReady f was st
      → Makes f (with_phase f (Ended a.reply)) was now st frames frames (answer_entry f.processor f.number (call_in f.purpose) a)
  unwire_answered space page is pinned =
      concluded (Unwire was.number page)
      (λ st ready on. Concludes-pin f first len page false a was now st ready (own_call f space was (λ s. Unwire s page) is refl on) pinned)
