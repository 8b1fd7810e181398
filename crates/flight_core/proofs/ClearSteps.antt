-- A range's pages give their frames up, the lowest first, until none is resident.
use Rattle.std.proofs.Common.{◌≡◌, ℕ, ◌+◌, ◌<◌, ◌≤◌, Bool, Option, true, false, cond, eqb, leb, ltb, ◌&&◌, is_some, Some, None, refl, ap, sym, subst, ◌∙◌, inl, inr, arith}
use Rattle.std.specs.List.{range_with_len, count_by}
use Rattle.std.proofs.lemmas.Bool.{cases_eq, cond-true, cond-false, and_parts, and_from, and_right, eq-eqb, ne_eqb, le-leb, leb-true, lt-ltb, ltb-true, false≢true}
use Rattle.std.proofs.lemmas.Option.{same_Some}
use Rattle.pager_model.specs.Flat.{space_of_call}
use Rattle.pager_model.specs.FrameStates.{FrameState, frame_of, counted, give_page, give_range}
use Rattle.pager_model.specs.Layouts.{covering}
use Rattle.pager_model.specs.Regions.{range_in, region_at}
use Rattle.pager_model.specs.Order.{Progress}
use Rattle.pager_model.specs.SpaceStates.{SpaceState}
use Rattle.pager_model.proofs.CountLemmas.{count-one_more}
use Rattle.pager_model.proofs.FrameEntries.{given_in-entries}
use Rattle.space_core.specs.Beginning.{ClearsFor, IsToClear, ClearsOne, ClearsNone, SameStore}
use Rattle.space_core.specs.Standing.{Kept, IsResting, StandsBeside, StandsFor, StandsBut, frame_at, is_in, is_clearing}
use Rattle.pager_model.specs.CallEntries.{clear_entry}
use Rattle.flight_core.specs.declared.flight.Flight.{Flight}
use Rattle.flight_core.specs.declared.flight.Phase.TheVariants.{Clear, Gone}
use Rattle.flight_core.specs.Flights.{IsReadied, IsReady}
use Rattle.flight_core.specs.Rows.{call_in, next_readied, pins, readied}
use Rattle.flight_core.specs.Steps.{Makes, SameSpace}
use Rattle.flight_core.proofs.EntrySteps.{Leaves-on, SpaceAndFrames, same_space, same_space-on, same_store-on}
use Rattle.flight_core.proofs.MadeEntries.{made_on_frames}
use Rattle.flight_core.proofs.NextFlights.{keeps_readied}
use Rattle.flight_core.proofs.PinSteps.{pins-none}
use Rattle.pager_laws.proofs.GivenRanges.{give_range-none, give_range-lowest}
use Rattle.flight_core.proofs.Purposes.{in_phase, with_phase, same_work, by_ready}

-- One page after another.

-- Some pages of a range gave their frames up, the lowest first: the space stands for the same entries but for the range, it and the
-- frames agree, and the pages that are left lead to the same state of the frames.
pub record IsClearing (was now : SpaceAndFrames) (first len : ℕ) : Type 0 where
  pub same_space : SameSpace was.space now.space
  pub same_regions : now.space.regions ≡ was.space.regions
  pub same_pending : now.space.pending ≡ was.space.pending
  pub same_paged : now.space.paged ≡ was.space.paged
  pub stands : (st : SpaceState) → StandsBut first len was.space st → StandsBut first len now.space st
  pub agrees : (p : ℕ) → frame_at now.space p ≡ frame_of now.frames was.space.number p
  pub leads : give_range now.frames was.space.number first len ≡ give_range was.frames was.space.number first len
  pub same_entries : now.frames.entries ≡ was.frames.entries
  pub same_store : SameStore was.space now.space

-- The lowest page gives its frame up.
pub record GivesLowest (was now : SpaceAndFrames) (first len own : ℕ) : Type 0 where
  pub page : ℕ
  pub frame : ℕ
  pub clears : ClearsOne was.space now.space first len page frame
  pub given : now.frames ≡ give_page was.frames own page
  pub places : (s p : ℕ) → frame_of now.frames s p ≡ cond (eqb own s && eqb p page) None (frame_of was.frames s p)

module _ (was mid now : SpaceAndFrames) (first len own : ℕ) where
  pub IsClearing-next : IsClearing was mid first len → own ≡ was.space.number → GivesLowest mid now first len own
      → IsClearing was now first len
  IsClearing-next so_far same gives = record {
    same_space = same_space-on so_far.same_space (same_space gives.clears.gave.same);
    same_regions = gives.clears.gave.same.regions ∙ so_far.same_regions;
    same_pending = gives.clears.same_pending ∙ so_far.same_pending;
    same_paged = gives.clears.same_paged ∙ so_far.same_paged;
    stands = λ st is. gives.clears.stands st (so_far.stands st is);
    agrees = agrees;
    leads = ap (λ t. give_range t was.space.number first len) given_own
        ∙ give_range-lowest was.space.number mid.frames first len gives.page low high
        (λ p over under. sym (so_far.agrees p) ∙ below p over under) (ap is_some (sym (so_far.agrees gives.page) ∙ gives.clears.gave.had))
        (λ p over under. ap (λ (t : FrameState). frame_of t was.space.number p) (sym given_own) ∙ sym (agrees p) ∙ up_to p over under)
        ∙ so_far.leads;
    same_entries = ap (λ (t : FrameState). t.entries) gives.given
        ∙ given_in-entries mid.frames gives.page (covering own gives.page mid.frames.records) ∙ so_far.same_entries;
    same_store = same_store-on so_far.same_store gives.clears.gave.same_store;
  }
    where
      parts : (leb first gives.page ≡ true) × (ltb gives.page (first + len) ≡ true)
      parts = and_parts _ _ gives.clears.within

      low : first ≤ gives.page
      low = leb-true first gives.page parts.0

      high : gives.page < first + len
      high = ltb-true gives.page (first + len) parts.1

      given_own : now.frames ≡ give_page mid.frames was.space.number gives.page
      given_own = gives.given ∙ ap (λ s. give_page mid.frames s gives.page) same

      agrees : (p : ℕ) → frame_at now.space p ≡ frame_of now.frames was.space.number p
      agrees p = elim (cases_eq p gives.page) [
        | inl here ↦ ap (frame_at now.space) here ∙ gives.clears.gave.gone
            ∙ sym (gives.places was.space.number p
            ∙ cond-true _ _ _ (and_from _ _ (eq-eqb own was.space.number same) (eq-eqb p gives.page here)))
        | inr other ↦ gives.clears.gave.same_others p other ∙ so_far.agrees p
            ∙ sym (gives.places was.space.number p ∙ cond-false _ _ _ (and_right _ _ (ne_eqb p gives.page other)))
      ]

      below : (p : ℕ) → first ≤ p → p < gives.page → frame_at mid.space p ≡ None
      below p over under =
          gives.clears.lowest p (and_from _ _ (le-leb first p over) (lt-ltb p (first + len) (omega (arith, under, high)))) under

      up_to : (p : ℕ) → first ≤ p → p ≤ gives.page → frame_at now.space p ≡ None
      up_to p over under = elim (cases_eq p gives.page) [
        | inl here ↦ ap (frame_at now.space) here ∙ gives.clears.gave.gone
        | inr other ↦ gives.clears.gave.same_others p other ∙ below p over (omega (arith, under, other))
      ]

-- then fewer pages of the range are resident
pub fewer_resident : (kept now : Kept) (first len page frame : ℕ) → ClearsOne kept now first len page frame
    → count_by (λ p. is_some (frame_at now p)) (range_with_len first len) < count_by (λ p. is_some (frame_at kept p))
    (range_with_len first len)
fewer_resident kept now first len page frame clears =
    let parts = and_parts (leb first page) (ltb page (first + len)) clears.within in
    let one_more = count-one_more (λ p. is_some (frame_at now p)) (λ p. is_some (frame_at kept p)) page (ap is_some clears.gave.gone)
    (ap is_some clears.gave.had)
    (λ p other. ap is_some (clears.gave.same_others p other)) first len (leb-true first page parts.0)
    (ltb-true page (first + len) parts.1) in
    omega (arith, one_more)

-- in a space at rest nothing is open
StandsBut-rest : (kept : Kept) (st : SpaceState) (first len : ℕ) → IsResting kept → StandsFor kept st → StandsBut first len kept st
StandsBut-rest kept st first len resting stands = record {
  beside = record {
    regions = beside.regions;
    rights = beside.rights;
    dirty = λ page out. beside.dirty page (closed page);
    told = λ is. (let tells = beside.told is in record {
      tells = tells.tells;
      words = λ page i out. tells.words page i (closed page);
      copies = λ page out rests. tells.copies page (closed page) rests;
      copied = λ page out even. tells.copied page (closed page) even;
    });
    tied = beside.tied;
    untied = beside.untied;
    highest = beside.highest;
  };
  base = λ page out. stands.base page;
  pages = λ page out. stands.pages page;
  translates = stands.translates;
  not_begun = λ out page. stands.pages page;
  counted = λ is. absurd (false≢true (sym (ap (λ o. is_clearing o first len) resting.none_clearing) ∙ is));
}
  where
    beside : StandsBeside (is_in kept.clearing) kept st
    beside = stands.beside

    closed : (page : ℕ) → is_in kept.clearing page ≡ false
    closed page = ap (λ o. is_in o page) resting.none_clearing

-- the flight's space is the call's
pub on_clear : (f : Flight) (first len : ℕ) (was : Kept) (st : SpaceState) → f.phase ≡ Clear first len → IsReady f was st
    → space_of_call (call_in f.purpose) ≡ was.number
on_clear f first len was st phase = by_ready f (Clear first len) was st refl phase (λ g to. space_of_call (call_in f.purpose) ≡ was.number)
    (λ ready. same_Some _ _ ready.under)

-- Clear: the pages of the range gave their frames up, and none is left
module _ (f : Flight) (first len : ℕ) (was mid : SpaceAndFrames) (now : Kept) where
  Makes-clear :
      (st : SpaceState) → IsReady (in_phase f (Clear first len)) was.space st → IsClearing was mid first len
      → ClearsNone mid.space now first len
      → Makes (in_phase f (Clear first len)) (in_phase f (Gone first len)) was.space now st was.frames (counted mid.frames)
      (clear_entry f.processor (space_of_call (call_in f.purpose)) first len)
  Makes-clear st ready so_far clears = record {
    entry = made_on_frames (record {
      same_work = same_work f (Clear first len) (Gone first len);
      in_order = ap (λ (o : Option Bool). Some (let p : Progress = record {
        made = f.number;
        doing = readied (space_of_call (call_in f.purpose)) first len o;
      } in p)) (sym pins_none);
      fewer = omega arith;
      on_way = refl;
      no_answer = refl;
    })
        ((space_of_call (call_in f.purpose), refl), refl) tt
        (ap counted
        (sym (give_range-none was.space.number mid.frames first len
        (λ p over under. sym (so_far.agrees p) ∙ sym (clears.same.frame p)
        ∙ clears.none p (and_from _ _ (le-leb first p over) (lt-ltb p (first + len) under))))
        ∙ so_far.leads
        ∙ ap (λ s. give_range was.frames s first len) (sym on)));
    space = Leaves-on (clear_entry f.processor (space_of_call (call_in f.purpose)) first len) (ap Some on)
        (same_space-on so_far.same_space (same_space clears.same.same)) ready.next tt
        (ap (λ rs. range_in first len (region_at rs first)) ready.stands.beside.regions ∙ is.within)
        (record {
          fits = record { kind = refl; can = ready.fits.can; phase = tt };
          stands = clears.stands st f.processor (so_far.stands st (StandsBut-rest was.space st first len ready.found.resting ready.stands));
          next = ap (next_readied f.processor first len) (sym pins_none);
          found = subst (IsReadied (call_in f.purpose) now first len) (sym pins_none) (record {
            clears = record {
              in_space = is.in_space;
              within = ap (λ rs. range_in first len (region_at rs first)) same_regions ∙ is.within;
              is_for = subst (λ rs. ClearsFor rs (call_in f.purpose) first len) (sym same_regions) is.is_for;
            };
            none_pending = clears.same_pending ∙ so_far.same_pending ∙ ready.found.resting.none_pending;
            none_paged = clears.same_paged ∙ so_far.same_paged ∙ ready.found.resting.none_paged;
            clearing = clears.clearing;
            none = clears.none;
          });
          keeps = inl (keeps_readied (Some (space_of_call (call_in f.purpose))) (space_of_call (call_in f.purpose)) first len
              (pins (call_in f.purpose)) ∙ ap Some (on ∙ sym (clears.same.same.number ∙ so_far.same_space.number)));
        });
  }
    where
      on : space_of_call (call_in f.purpose) ≡ was.space.number
      on = same_Some _ _ ready.under

      same_regions : now.regions ≡ was.space.regions
      same_regions = clears.same.same.regions ∙ so_far.same_regions

      is : IsToClear was.space (call_in f.purpose) first len
      is = ready.found.clears

      pins_none : pins (call_in f.purpose) ≡ None
      pins_none = pins-none was.space.regions (call_in f.purpose) first len is.is_for

pub range_cleared : (f : Flight) (first len : ℕ) (was mid : SpaceAndFrames) (now : Kept) → f.phase ≡ Clear first len
    → IsClearing was mid first len → ClearsNone mid.space now first len → (st : SpaceState) → IsReady f was.space st
    → Makes f (with_phase f (Gone first len)) was.space now st was.frames (counted mid.frames)
    (clear_entry f.processor (space_of_call (call_in f.purpose)) first len)
range_cleared f first len was mid now phase so_far clears st =
    by_ready f (Clear first len) was.space st refl phase
    (λ g to. Makes g (to (Gone first len)) was.space now st was.frames (counted mid.frames)
    (clear_entry f.processor (space_of_call (call_in f.purpose)) first len))
    (λ ready. Makes-clear f first len was mid now st ready so_far clears)
