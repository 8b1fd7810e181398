-- When a layout is full: no frame is free, and every reservation is full.
use Rattle.std.proofs.Common.{◌≡◌, ◌<◌, ℕ, zero, suc, ◌+◌, ◌-◌, ◌*◌, ◌%◌, ◌^◌, Bool, true, false, cond, not, List, length, get_or, Option, Some, None, option_map, refl, sym, ap, ◌∙◌, inl, inr, arith}
use Rattle.std.specs.List.{list_all}
use Rattle.std.specs.Option.{is_none}
use Rattle.std.proofs.lemmas.Bool.{cases_Bool, cases_lt, and_parts, and_from, not-true, not_from_false, false≢true, false_from_ne_true}
use Rattle.std.proofs.lemmas.List.{get_or_past, get_or_default}
use Rattle.std.proofs.lemmas.List.Sums.{AllPass-from_list_all, list_all-from_AllPass}
use Rattle.std.proofs.lemmas.Option.{none-some}
use Rattle.pager_model.proofs.FreeRuns.{run_free-choice, run_free_at, run_free_from, no_choice}
use Rattle.pager_model.specs.declared.reservation.Reservation.{Reservation}
use Rattle.pager_model.specs.Agreement.{has_frame}
use Rattle.pager_model.specs.FreeBlocks.{choice, run_free}
use Rattle.pager_model.specs.Layouts.{Layout, to_break, is_full, is_full_record, record_at, is_free}
use Rattle.pager_model.specs.Records.{is_used, none_used, has_empty, yield_up_to, yield_of, yield_in}
use Rattle.pager_model.specs.SizeSets.{SizeSet, size_within}
use Rattle.pager_laws.proofs.PartYields.{yield_in-within, yield_less}
use Rattle.pager_model.proofs.ExtentLemmas.{eight_pos}
use Rattle.pager_model.proofs.Lists.{get_or_within}
use Rattle.pager_model.proofs.RecordFrames.{has_frame_bounds, has_empty-yes}
use Rattle.pager_laws.specs.Laid.{IsLaid}
use Rattle.pager_laws.proofs.FoundExtents.{MayBreak-found}
use Rattle.pager_laws.proofs.AgeLists.{oldest_from-none}

-- what is_full says of each frame and each reservation
pub record EachFull (l : Layout) : Type 0 where
  pub taken : (frame : ℕ) → is_free l frame ≡ false
  pub full : (id : ℕ) (r : Reservation) → record_at l id ≡ Some r → yield_in l.sizes (is_used l.used) r ≡ None

-- where the test passes, no frame is free, known or not
none_taken : (free : List Bool) → list_all not free ≡ true → (frame : ℕ) → get_or free frame false ≡ false
none_taken free all frame = elim (cases_lt frame (length free)) [
  | inl known ↦ not-true _ (AllPass-from_list_all not free all frame false known)
  | inr past ↦ get_or_past free frame false past
]

-- a reservation that passes the test has no yield
yields_none : (z : SizeSet) (used : List Bool) (r : Reservation) → is_full_record z used (Some r) ≡ true
    → yield_in z (is_used used) r ≡ None
yields_none z used r full =
    elim (yield_in z (is_used used) r) as (λ o. is_none o ≡ true → o ≡ None) [
      | None ↦ λ _. refl
      | Some k ↦ λ h. absurd (false≢true h)
    ] full

-- the test says just this
pub EachFull-from : (l : Layout) → is_full l ≡ true → EachFull l
EachFull-from l full =
    let parts = and_parts _ _ full in
    record {
      taken = none_taken l.free parts.0;
      full = λ id r is.
          let all = AllPass-from_list_all (is_full_record l.sizes l.used) l.records parts.1 in
          yields_none l.sizes l.used r (sym (ap (is_full_record l.sizes l.used) is) ∙ all id None (get_or_within l.records id r is));
    }

pub is_full-from : (l : Layout) → EachFull l → is_full l ≡ true
is_full-from l full =
    and_from _ _
    (list_all-from_AllPass not l.free (λ frame d known. not_from_false _ (get_or_default l.free frame d false known ∙ full.taken frame)))
    (list_all-from_AllPass (is_full_record l.sizes l.used) l.records (λ id d known.
    ap (is_full_record l.sizes l.used) (get_or_default l.records id d None known) ∙ at id (record_at l id) refl))
  where
    at : (id : ℕ) (o : Option Reservation) → record_at l id ≡ o → is_full_record l.sizes l.used o ≡ true
    at id None is = refl
    at id (Some r) is = ap is_none (full.full id r is)

-- a choice is of free frames
pub none-choice : (free : List Bool) (size : ℕ) → ((frame : ℕ) → get_or free frame false ≡ false) → choice free size ≡ None
none-choice free size taken =
    elim (choice free size) as (λ o. choice free size ≡ o → o ≡ None) [
      | None ↦ λ _. refl
      | Some first ↦ λ is. absurd
          (false≢true (sym (taken (first + 0)) ∙ run_free_at free first (8 ^ size) (run_free-choice free size first is) 0 (eight_pos size)))
    ] refl

-- where there is no choice for one frame, none is free
pub choice-none : (free : List Bool) → choice free 0 ≡ None → (frame : ℕ) → get_or free frame false ≡ false
choice-none free none frame = false_from_ne_true _ (λ is.
    let first : frame + 0 ≡ frame = omega arith in
    let run : run_free free frame 1 ≡ true = run_free_from free frame 1
    (λ i h. let at : frame + i ≡ frame = omega arith in ap (λ f. get_or free f false) at ∙ is) in
    let all : frame % 1 ≡ 0 = omega arith in
    false≢true (sym (no_choice free 0 (omega arith) none frame all) ∙ run))

-- where there is no yield no size up to the reservation's has an extent without a used place
pub yield_up_to-none : (used : ℕ → Bool) (r : Reservation) (n : ℕ) → yield_up_to used r n ≡ None → has_empty used r 0 ≡ false
yield_up_to-none used r zero none =
    elim (has_empty used r 0) as (λ b. cond {A = Option ℕ} b (Some 0) None ≡ None → b ≡ false) [
      | true ↦ λ h. absurd (none-some 0 (sym h))
      | false ↦ λ _. refl
    ] none
yield_up_to-none used r (suc n) none =
    elim (has_empty used r (suc n)) as (λ b. cond b (Some (suc n)) (yield_up_to used r n) ≡ None → has_empty used r 0 ≡ false) [
      | true ↦ λ h. absurd (none-some (suc n) (sym h))
      | false ↦ λ h. yield_up_to-none used r n h
    ] none

-- a reservation of the layout has a yield below 3, or none
yields_small : (l : Layout) (id k : ℕ) (r : Reservation) → IsLaid l → record_at l id ≡ Some r
    → yield_in l.sizes (is_used l.used) r ≡ Some k → k < 3
yields_small l id k r laid is yields =
    let some = laid.some_used id r is in
    omega (arith, (laid.placed id r is).aligned.0, yield_less l.sizes (is_used l.used) r k some.0 some.1 some.2 yields)

-- a reservation without a yield has none by all four sizes
pub yield_of-none : (z : SizeSet) (used : ℕ → Bool) (r : Reservation) → yield_in z used r ≡ None → yield_of used r ≡ None
yield_of-none z used r none = at (yield_of used r) (sym (yield_in-within z used r) ∙ none)
  where
    at : (o : Option ℕ) → option_map (size_within z) o ≡ None → o ≡ None
    at None h = refl
    at (Some k) h = absurd (none-some (size_within z k) (sym h))

-- where there is no choice for one frame and nothing to break, the layout is full
pub EachFull-none : (l : Layout) → IsLaid l → choice l.free 0 ≡ None → to_break l 0 ≡ None → EachFull l
EachFull-none l laid none nothing =
    record { taken = choice-none l.free none; full = λ id r is. at id r is (yield_in l.sizes (is_used l.used) r) refl }
  where
    at : (id : ℕ) (r : Reservation) → record_at l id ≡ Some r → (o : Option ℕ) → yield_in l.sizes (is_used l.used) r ≡ o
        → yield_in l.sizes (is_used l.used) r ≡ None
    at id r is None yields = yields
    at id r is (Some k) yields =
        let small = yields_small l id k r laid is yields in
        absurd (oldest_from-none l 0 3 nothing k (omega arith) (omega arith) id r is yields)

-- in a full layout there is nothing to break
pub to_break-full : (l : Layout) (size : ℕ) → IsLaid l → EachFull l → to_break l size ≡ None
to_break-full l size laid full = at (to_break l size) refl
  where
    at : (o : Option ℕ) → to_break l size ≡ o → to_break l size ≡ None
    at None is = is
    at (Some id) is =
        let may = MayBreak-found l size id laid is in
        absurd (none-some may.yields (sym (full.full id may.reservation may.is) ∙ may.yield_is))

-- each place of a full reservation is used
pub used-full : (l : Layout) (frame id : ℕ) (r : Reservation) → EachFull l → record_at l id ≡ Some r → has_frame frame (Some r) ≡ true
    → is_used l.used frame ≡ true
used-full l frame id r full is has =
    let bounds = has_frame_bounds frame r has in
    let i = frame - r.frame in
    let none = yield_up_to-none (is_used l.used) r r.size (yield_of-none l.sizes (is_used l.used) r (full.full id r is)) in
    let size : 8 ^ (r.size - 0) ≡ 8 ^ r.size = (let same : r.size - 0 ≡ r.size = omega arith in ap (λ n. 8 ^ n) same) in
    let at : r.frame + i * 1 ≡ frame = omega (arith, bounds.0) in
    elim (cases_Bool (is_used l.used frame)) [
      | inl used ↦ used
      | inr unused ↦
          let empty : none_used (is_used l.used) (r.frame + i * 1) 1 ≡ true =
          and_from _ _ (not_from_false _ (ap (is_used l.used) at ∙ unused)) refl in
          absurd (false≢true (sym none ∙ has_empty-yes (is_used l.used) r 0 i (omega (arith, size, bounds.0, bounds.1)) empty))
    ]
