-- What is left of the spare frames when the last of them is taken.
use Rattle.std.proofs.Common.{◌≡◌, ℕ, ◌&&◌, is_some, false, Some, ◌+◌, ◌<◌, ◌≤◌, List, [], ◌∷◌, ◌++◌, length, map, get_or, refl, sym, ap, ◌∙◌, inl, inr, arith, subst}
use Rattle.std.specs.List.{range_with_len}
use Rattle.std.proofs.lemmas.Bool.{cases_eq}
use Rattle.std.proofs.lemmas.Option.{none-some}
use Rattle.std.proofs.lemmas.List.{get_or_append_left, get_or_at, length-append}
use Rattle.std.proofs.lemmas.List.FromFn.{get_or-map-range_with_len, length-map-range_with_len, fill_by_all}
use Rattle.pager_model.specs.Frame.{Framed, zero_frame}
use Rattle.pager_model.specs.Flat.{page_of, can_read, can_write}
use Rattle.pager_model.specs.Regions.{region_at}
use Rattle.pager_model.specs.SizeSets.{SizeSet}
use Rattle.pager_model.specs.declared.call.Call.{Call}
use Rattle.pager_model.specs.declared.call.Call.TheVariants.{Load, Store}
use Rattle.pager_model.specs.CallEntries.{clear_entry}
use Rattle.pager_model.specs.SpaceStates.{SpaceState, empty_state, space_after}
use Rattle.space_core.specs.Beginning.{ClearsNone, ClearsOne, GaveUp, SameRegions}
use Rattle.space_tests.specs.Spares.{HasSpare, IsEmptied, IsEmptying}
use Rattle.space_core.specs.Standing.{Kept, StandsFor, IsResting, frame_at, is_allowed, rights_at}

pub record IsPopped (spare rest : List Framed) (frame : Framed) : Type 0 where
  pub number : frame.number ≡ length rest
  pub lowest : rest ≡ map zero_frame (range_with_len 0 (length rest))
  pub count : length spare ≡ length rest + 1

pub popped : (spare rest : List Framed) (frame : Framed) → spare ≡ map zero_frame (range_with_len 0 (length spare))
    → spare ≡ rest ++ frame ∷ [] → IsPopped spare rest frame
popped spare rest frame lowest ends =
    let count : length spare ≡ length rest + 1 = ap length ends ∙ length-append rest (frame ∷ []) in
    let at : (i : ℕ) → i < length rest + 1 → get_or spare i frame ≡ zero_frame i = λ i within.
    ap (λ (xs : List Framed). get_or xs i frame) lowest ∙ get_or-map-range_with_len zero_frame 0 (length spare) i i frame (omega arith)
    (omega arith) in
    let last : get_or spare (length rest) frame ≡ frame = ap (λ (xs : List Framed). get_or xs (length rest) frame) ends
    ∙ get_or_at rest frame [] frame (length rest) refl in
    record {
      number = ap (λ (f : Framed). f.number) (sym last ∙ at (length rest) (omega arith));
      lowest = fill_by_all zero_frame rest (length rest) frame refl (λ k within.
          sym (get_or_append_left rest (frame ∷ []) frame k within) ∙ ap (λ (xs : List Framed). get_or xs k frame) (sym ends)
          ∙ at k (omega arith));
      count = count;
    }

-- the lowest frames are spare for a space that has begun
pub lowest_spare : (z : SizeSet) (s : Kept) (spare : List Framed) (n : ℕ) → spare ≡ map zero_frame (range_with_len 0 n) → n ≤ s.frames
    → length s.images ≡ 2 → IsResting s → StandsFor s (empty_state z false s.store.faults) → HasSpare s spare
lowest_spare z s spare n lowest count processors resting stands =
    let few : length spare ≡ n = ap length lowest ∙ length-map-range_with_len zero_frame 0 n in
    record {
      resting = resting;
      processors = processors;
      state = empty_state z false s.store.faults;
      stands = stands;
      lowest = lowest ∙ ap (λ (k : ℕ). map zero_frame (range_with_len 0 k)) (sym few);
      few = omega (arith, few, count);
      apart = λ p number has. absurd (none-some number (stands.base p ∙ has));
    }

-- the frames that are left are spare
pub rest_spare : (kept : Kept) (spare rest : List Framed) (frame : Framed) → IsPopped spare rest frame → HasSpare kept spare
    → HasSpare kept rest
rest_spare kept spare rest frame last had =
    record {
      resting = had.resting;
      processors = had.processors;
      state = had.state;
      stands = had.stands;
      lowest = last.lowest;
      few = omega (arith, last, had.few);
      apart = λ p number has. omega (arith, last, had.apart p number has);
    }

-- frames are still spare where no page has another
pub still_spare : (old new : Kept) (spare : List Framed) (state : SpaceState) → IsResting new → StandsFor new state
    → new.frames ≡ old.frames → length new.images ≡ length old.images
    → ((p number : ℕ) → frame_at new p ≡ Some number → frame_at old p ≡ Some number) → HasSpare old spare → HasSpare new spare
still_spare old new spare state resting stands count processors kept had =
    record {
      resting = resting;
      processors = processors ∙ had.processors;
      state = state;
      stands = stands;
      lowest = had.lowest;
      few = omega (arith, had.few, count);
      apart = λ p number has. had.apart p number (kept p number has);
    }

-- a page that gives its frame up has none of them
pub kept_others : (old new : Kept) (page frame : ℕ) → GaveUp old new page frame → (p number : ℕ) → frame_at new p ≡ Some number
    → frame_at old p ≡ Some number
kept_others old new page frame gave p number has =
    elim (cases_eq p page) [
      | inl e ↦ absurd (none-some number (sym gave.gone ∙ ap (frame_at new) (sym e) ∙ has))
      | inr n ↦
          sym (gave.same_others p n) ∙ has
    ]

-- what rights allow depends on the regions and the rights alone
pub allowed_same : (was now : Kept) (call : Call) → SameRegions was now → is_allowed now call ≡ is_allowed was call
allowed_same was now (Load space address) same =
    ap (λ rs. is_some (region_at rs (page_of address)) && can_read (rights_at now (page_of address))) same.regions
    ∙ ap (λ r. is_some (region_at was.regions (page_of address)) && can_read r) (same.rights (page_of address))
allowed_same was now (Store space address word) same =
    ap (λ rs. is_some (region_at rs (page_of address)) && can_write (rights_at now (page_of address))) same.regions
    ∙ ap (λ r. is_some (region_at was.regions (page_of address)) && can_write r) (same.rights (page_of address))
allowed_same was now call same = refl

same_through : (old mid new : Kept) → SameRegions old mid → SameRegions mid new → SameRegions old new
same_through old mid new first then =
    record {
      number = then.number ∙ first.number;
      frames = then.frames ∙ first.frames;
      processors = then.processors ∙ first.processors;
      regions = then.regions ∙ first.regions;
      rights = λ p. then.rights p ∙ first.rights p;
    }

-- the pages of a range give their frames up one after another, until none has one
pub emptying_one : (old mid new : Kept) (first len page frame : ℕ) → IsEmptying old mid first len → ClearsOne mid new first len page frame
    → IsEmptying old new first len
emptying_one old mid new first len page frame so_far clears =
    record {
      same = same_through old mid new so_far.same clears.gave.same;
      same_pending = clears.same_pending ∙ so_far.same_pending;
      same_paged = clears.same_paged ∙ so_far.same_paged;
      frames = λ p number has. so_far.frames p number (kept_others mid new page frame clears.gave p number has);
      stands = λ st is. clears.stands st (so_far.stands st is);
    }

pub emptied : (old mid new : Kept) (first len : ℕ) → IsEmptying old mid first len → ClearsNone mid new first len → IsEmptied old new first len
emptied old mid new first len so_far clears =
    record {
      same = same_through old mid new so_far.same clears.same.same;
      same_pending = clears.same_pending ∙ so_far.same_pending;
      same_paged = clears.same_paged ∙ so_far.same_paged;
      clearing = clears.clearing;
      none = clears.none;
      frames = λ p number has. so_far.frames p number (sym (clears.same.frame p) ∙ has);
      stands = λ st c is. subst (λ n. StandsFor new (space_after st (clear_entry c n first len))) so_far.same.number
          (clears.stands st c (so_far.stands st is));
    }
