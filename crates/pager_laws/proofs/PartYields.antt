-- The yield of a reservation and of its parts, by the sizes that there are.
use Rattle.std.proofs.Common.{◌≡◌, ◌≢◌, ◌<◌, ◌≤◌, ℕ, zero, suc, ◌+◌, ◌-◌, ◌*◌, ◌/◌, ◌%◌, ◌^◌, Bool, true, false, ◌&&◌, not, cond, Option, Some, None, refl, ap, sym, ◌∙◌, arith, inl, inr, find, option_map}
use Rattle.std.specs.List.{range_with_len}
use Rattle.std.proofs.Math.Nat.{pow-le-pow_right}
use Rattle.std.proofs.lemmas.List.Folds.{Any-from_list_any}
use Rattle.std.proofs.lemmas.List.FromFn.{length-range_with_len, get_or-range_with_len}
use Rattle.std.proofs.lemmas.Bool.{cases_eq, cases_lt, cases_Bool, cond-true, cond-false, and_from, and_parts, eqb-true, eq-eqb, false≢true, not_from_false}
use Rattle.std.proofs.lemmas.Nat.{div_below, div-add-mod', mod_below}
use Rattle.std.proofs.lemmas.Option.{none-some, same_Some}
use Rattle.pager_model.specs.Agreement.{has_frame}
use Rattle.pager_model.specs.Records.{none_used, has_empty, yield_up_to, yield_of, largest_empty, yield_in, part_count, part_at, same_size, lowest_as_wide, goes_on_in}
use Rattle.pager_model.specs.SizeSets.{SizeSet, has_size, size_within}
use Rattle.pager_model.specs.declared.reservation.Reservation.{Reservation}
use Rattle.pager_model.proofs.ExtentLemmas.{eight_pos, eight_split, part_inside}
use Rattle.pager_model.proofs.Ranges.{list_all-range}
use Rattle.pager_model.proofs.SizeFloors.{within_at_most, has_within, within_largest}
use Rattle.pager_model.proofs.RecordFrames.{has_frame_bounds, unused_in, has_empty-yes}

-- Extents without a used place.

pub has_empty_some : (used : ℕ → Bool) (r : Reservation) (k : ℕ) → has_empty used r k ≡ true
    → (j : ℕ) × (j < 8 ^ (r.size - k)) × (none_used used (r.frame + j * 8 ^ k) (8 ^ k) ≡ true)
has_empty_some used r k has =
    let n = 8 ^ (r.size - k) in
    let any = Any-from_list_any (λ i. none_used used (r.frame + i * 8 ^ k) (8 ^ k)) (range_with_len 0 n) has in
    let within : any.0 < n = omega (arith, any.2, length-range_with_len 0 n) in
    let at : any.1 ≡ any.0 = sym any.3 ∙ get_or-range_with_len 0 n any.0 any.1 within ∙ omega arith in
    (any.0, within, ap (λ i. none_used used (r.frame + i * 8 ^ k) (8 ^ k)) (sym at) ∙ any.4)

-- a part of a range without a used place has none
none_used_part : (used : ℕ → Bool) (first n from m : ℕ) → first ≤ from → from + m ≤ first + n → none_used used first n ≡ true
    → none_used used from m ≡ true
none_used_part used first n from m low high none =
    (list_all-range (λ f. not (used f)) from m).1 (λ f above below. not_from_false _
    (unused_in used first n none f (omega arith) (omega arith)))

-- where an extent has no used place, neither has a smaller one in it
pub has_empty_smaller : (used : ℕ → Bool) (r : Reservation) (j k : ℕ) → j ≤ k → k ≤ r.size → has_empty used r k ≡ true
    → has_empty used r j ≡ true
has_empty_smaller used r j k le low has =
    let found = has_empty_some used r k has in
    let u = 8 ^ (k - j) in
    let at : found.0 * u * 8 ^ j ≡ found.0 * 8 ^ k = omega (arith, ap (λ n. found.0 * n) (eight_split j k le)) in
    let less : r.size - j - (k - j) ≡ r.size - k = omega arith in
    let whole : 8 ^ (r.size - j) ≡ 8 ^ (r.size - k) * u = eight_split (k - j) (r.size - j) (omega arith) ∙ ap (λ n. 8 ^ n * u) less in
    let inside = part_inside found.0 u (8 ^ (r.size - k)) found.1 in
    let positive : 0 < 8 = omega arith in
    let smaller : 8 ^ j ≤ 8 ^ k = pow-le-pow_right positive le in
    has_empty-yes used r j (found.0 * u) (omega (arith, inside, whole, eight_pos (k - j)))
    (none_used_part used (r.frame + found.0 * 8 ^ k) (8 ^ k) (r.frame + found.0 * u * 8 ^ j) (8 ^ j) (omega (arith, at))
    (omega (arith, at, smaller)) found.2)

-- a reservation with a used place isn't empty
pub whole_not_empty : (used : ℕ → Bool) (r : Reservation) (frame : ℕ) → has_frame frame (Some r) ≡ true → used frame ≡ true
    → has_empty used r r.size ≡ false
whole_not_empty used r frame has is = elim (cases_Bool (has_empty used r r.size)) [
  | inr none ↦ none
  | inl all ↦
      let found = has_empty_some used r r.size all in
      let none : r.size - r.size ≡ 0 = omega arith in
      let only : found.0 ≡ 0 = omega (arith, found.1, ap (λ m. 8 ^ m) none) in
      let start : r.frame + found.0 * 8 ^ r.size ≡ r.frame = ap (λ m. r.frame + m * 8 ^ r.size) only ∙ omega arith in
      let bounds = has_frame_bounds frame r has in
      let unused = unused_in used (r.frame + found.0 * 8 ^ r.size) (8 ^ r.size) found.2 frame (omega (arith, bounds.0, start))
      (omega (arith, bounds.1, start)) in
      absurd (false≢true (sym unused ∙ is))
]

-- The yield: the widest of the sizes that there are.

pub record IsWidest (z : SizeSet) (used : ℕ → Bool) (r : Reservation) (n k : ℕ) : Type 0 where
  pub low : k ≤ n
  pub size : has_size z k ≡ true
  pub has : has_empty used r k ≡ true
  pub wider : (j : ℕ) → k < j → j ≤ n → has_size z j ≡ true → has_empty used r j ≡ false

second_false : (a b : Bool) → (a && b) ≡ false → a ≡ true → b ≡ false
second_false true b fails is = fails
second_false false b fails is = absurd (false≢true is)

pub IsWidest-from : (z : SizeSet) (used : ℕ → Bool) (r : Reservation) (n k : ℕ) → largest_empty z used r n ≡ Some k → IsWidest z used r n k
IsWidest-from z used r zero k is = elim (cases_Bool (has_empty used r 0)) [
  | inl here ↦
      let same : 0 ≡ k = same_Some 0 k (sym (cond-true _ _ _ here) ∙ is) in
      record {
        low = omega arith;
        size = ap (has_size z) (sym same);
        has = ap (has_empty used r) (sym same)
            ∙ here;
        wider = λ j above below _. absurd (omega arith);
      }
  | inr missed ↦ absurd (none-some k (sym (cond-false _ _ _ missed) ∙ is))
]
IsWidest-from z used r (suc m) k is = elim (cases_Bool (has_size z (suc m) && has_empty used r (suc m))) [
  | inl here ↦
      let same : suc m ≡ k = same_Some (suc m) k (sym (cond-true _ _ _ here) ∙ is) in
      let both = and_parts _ _ here in
      record {
        low = omega arith;
        size = ap (has_size z) (sym same) ∙ both.0;
        has = ap (has_empty used r) (sym same) ∙ both.1;
        wider = λ j above below _. absurd (omega arith);
      }
  | inr missed ↦
      let rest = IsWidest-from z used r m k (sym (cond-false _ _ _ missed) ∙ is) in
      record {
        low = omega (arith, rest.low);
        size = rest.size;
        has = rest.has;
        wider = λ j above below one. elim (cases_eq j (suc m)) [
          | inl at ↦ ap (has_empty used r) at ∙ second_false _ _ missed (ap (has_size z) (sym at) ∙ one)
          | inr other ↦ rest.wider j above (omega arith) one
        ];
      }
]

pub from_widest : (z : SizeSet) (used : ℕ → Bool) (r : Reservation) (n k : ℕ) → IsWidest z used r n k → largest_empty z used r n ≡ Some k
from_widest z used r zero k widest =
    let same : k ≡ 0 = omega (arith, widest.low) in
    cond-true _ _ _ (ap (has_empty used r) (sym same) ∙ widest.has) ∙ ap Some (sym same)
from_widest z used r (suc m) k widest = elim (cases_eq k (suc m)) [
  | inl here ↦ cond-true _ _ _ (and_from _ _ (ap (has_size z) (sym here) ∙ widest.size) (ap (has_empty used r) (sym here) ∙ widest.has))
      ∙ ap Some (sym here)
  | inr other ↦
      cond-false _ _ _ (no_larger (has_size z (suc m)) (has_empty used r (suc m))
      (λ one. widest.wider (suc m) (omega (arith, widest.low)) (omega arith) one))
      ∙ from_widest z used r m k
      (record {
        low = omega (arith, widest.low);
        size = widest.size;
        has = widest.has;
        wider = λ j above below one. widest.wider j above (omega arith) one;
      })
]
  where
    no_larger : (a b : Bool) → (a ≡ true → b ≡ false) → (a && b) ≡ false
    no_larger true b h = h refl
    no_larger false b h = refl

-- the yield by the sizes that there are is the largest of them that is at most the yield by all four
pub yield_in-within : (z : SizeSet) (used : ℕ → Bool) (r : Reservation) → yield_in z used r ≡ option_map (size_within z) (yield_of used r)
yield_in-within z used r = at r.size (omega arith)
  where
    right_false : (a b : Bool) → b ≡ false → (a && b) ≡ false
    right_false true b fails = fails
    right_false false b fails = refl

    at : (n : ℕ) → n ≤ r.size → largest_empty z used r n ≡ option_map (size_within z) (yield_up_to used r n)
    at zero low = elim (has_empty used r 0) as (λ b. cond b (Some 0) None ≡ option_map (size_within z) (cond b (Some 0) None)) [
      | true ↦
          refl
      | false ↦ refl
    ]
    at (suc m) low = elim (cases_Bool (has_empty used r (suc m))) [
      | inl here ↦
          let k = size_within z (suc m) in
          let below = within_at_most z (suc m) in
          from_widest z used r (suc m) k (record {
            low = below;
            size = has_within z (suc m);
            has = has_empty_smaller used r k (suc m) below low here;
            wider = λ j above under one. absurd (omega (arith, above, within_largest z (suc m) j one under));
          })
          ∙ sym (ap (option_map (size_within z)) (cond-true _ _ _ here))
      | inr missed ↦
          cond-false _ _ _ (right_false (has_size z (suc m)) (has_empty used r (suc m)) missed) ∙ at m (omega arith)
          ∙ sym (ap (option_map (size_within z)) (cond-false _ _ _ missed))
    ]

-- what the yield by all four sizes tells of it
pub yield_in-told : (z : SizeSet) (used : ℕ → Bool) (r : Reservation) (k size : ℕ) → size ≡ size_within z k → yield_of used r ≡ Some k
    → yield_in z used r ≡ Some size
yield_in-told z used r k size is yields = yield_in-within z used r ∙ ap (option_map (size_within z)) yields ∙ ap Some (sym is)

pub yield_in-not : (z : SizeSet) (used : ℕ → Bool) (r : Reservation) → yield_of used r ≡ None → yield_in z used r ≡ None
yield_in-not z used r none = yield_in-within z used r ∙ ap (option_map (size_within z)) none

-- a reservation with a used place yields less than all of it
pub yield_less : (z : SizeSet) (used : ℕ → Bool) (r : Reservation) (k frame : ℕ) → has_frame frame (Some r) ≡ true → used frame ≡ true
    → yield_in z used r ≡ Some k → k < r.size
yield_less z used r k frame has is yields =
    let widest = IsWidest-from z used r r.size k yields in
    elim (cases_lt k r.size) [
      | inl less ↦ less
      | inr most ↦
          let same : k ≡ r.size = omega (arith, widest.low) in
          let found = has_empty_some used r k widest.has in
          let none : r.size - k ≡ 0 = omega arith in
          let only : found.0 ≡ 0 = omega (arith, found.1, ap (λ m. 8 ^ m) none) in
          let start : r.frame + found.0 * 8 ^ k ≡ r.frame = ap (λ m. r.frame + m * 8 ^ k) only ∙ omega arith in
          let width : 8 ^ k ≡ 8 ^ r.size = ap (λ m. 8 ^ m) same in
          let bounds = has_frame_bounds frame r has in
          let unused = unused_in used (r.frame + found.0 * 8 ^ k) (8 ^ k) found.2 frame (omega (arith, bounds.0, start))
          (omega (arith, bounds.1, start, width)) in
          absurd (false≢true (sym unused ∙ is))
    ]

-- The extents inside a part are those inside the whole.

module _ (used : ℕ → Bool) (r : Reservation) (k m : ℕ) (splits : m ≤ r.size) (le : k ≤ m) where
  parts : 8 ^ (r.size - k) ≡ 8 ^ (r.size - m) * 8 ^ (m - k)
  parts =
      let less : r.size - k - (m - k) ≡ r.size - m = omega arith in
      eight_split (m - k) (r.size - k) (omega arith) ∙ ap (λ n. 8 ^ n * 8 ^ (m - k)) less

  -- the j-th extent of the i-th part
  place_in_part : (i j : ℕ) → r.frame + (i * 8 ^ (m - k) + j) * 8 ^ k ≡ (part_at m r i).frame + j * 8 ^ k
  place_in_part i j =
      let split : i * 8 ^ m ≡ i * (8 ^ (m - k) * 8 ^ k) = ap (λ n. i * n) (eight_split k m le) in
      omega (arith, split)

  pub has_empty_of_part : (i : ℕ) → i < part_count m r → has_empty used (part_at m r i) k ≡ true → has_empty used r k ≡ true
  has_empty_of_part i one has =
      let found = has_empty_some used (part_at m r i) k has in
      let u = 8 ^ (m - k) in
      let inside = part_inside i u (8 ^ (r.size - m)) one in
      has_empty-yes used r k (i * u + found.0) (omega (arith, inside, found.1, parts))
      (ap (λ a. none_used used a (8 ^ k)) (place_in_part i found.0) ∙ found.2)

  pub has_empty_in_part : has_empty used r k ≡ true → (i : ℕ) × (i < part_count m r) × (has_empty used (part_at m r i) k ≡ true)
  has_empty_in_part has =
      let found = has_empty_some used r k has in
      let u = 8 ^ (m - k) in
      let pos = eight_pos (m - k) in
      let i = found.0 / u in
      let j = found.0 % u in
      let whole : i * u + j ≡ found.0 = div-add-mod' found.0 u in
      let one : i < 8 ^ (r.size - m) = div_below found.0 u (8 ^ (r.size - m)) pos (omega (arith, found.1, parts)) in
      let at : (part_at m r i).frame + j * 8 ^ k ≡ r.frame + found.0 * 8 ^ k = sym (place_in_part i j)
      ∙ ap (λ n. r.frame + n * 8 ^ k) whole in
      (i, one, has_empty-yes used (part_at m r i) k j (mod_below found.0 u pos) (ap (λ a. none_used used a (8 ^ k)) at ∙ found.2))

-- some part of size m has the yield of the whole, where that is smaller
pub part_as_wide : (z : SizeSet) (used : ℕ → Bool) (r : Reservation) (k m : ℕ) → m ≤ r.size → IsWidest z used r r.size k → k ≤ m
    → (i : ℕ) × (i < part_count m r) × (yield_in z used (part_at m r i) ≡ Some k)
part_as_wide z used r k m splits widest narrow =
    let found = has_empty_in_part used r k m splits narrow widest.has in
    let part = part_at m r found.0 in
    let wider : (j : ℕ) → k < j → j ≤ m → has_size z j ≡ true → has_empty used part j ≡ false =
    λ j above below one. elim (cases_Bool (has_empty used part j)) [
      | inl is ↦ absurd (false≢true (sym (widest.wider j above (omega arith) one)
          ∙ has_empty_of_part used r j m splits below found.0 found.1 is))
      | inr none ↦ none
    ] in
    (found.0, found.1, from_widest z used part m k (record { low = narrow; size = widest.size; has = found.2; wider = wider }))

-- The search for the lowest such part.

pub find_range : (p : ℕ → Bool) (a n i : ℕ) → a ≤ i → i < a + n → p i ≡ true
    → (j : ℕ) × (find p (range_with_len a n) ≡ Some j) × (j < a + n) × (p j ≡ true)
find_range p a zero i low high is = absurd (omega arith)
find_range p a (suc n) i low high is = elim (cases_Bool (p a)) [
  | inl here ↦ (a, cond-true _ _ _ here, omega arith, here)
  | inr missed ↦
      let other : i ≢ a = λ same. false≢true (sym missed ∙ ap p (sym same) ∙ is) in
      let rest = find_range p (a + 1) n i (omega arith) (omega arith) is in
      (rest.0, cond-false _ _ _ missed ∙ rest.1, omega (arith, rest.2), rest.3)
]

pub same_size_from : (o : Option ℕ) (k : ℕ) → same_size o (Some k) ≡ true → o ≡ Some k
same_size_from None k is = absurd (false≢true is)
same_size_from (Some a) k is = ap Some (eqb-true a k is)

pub lowest_found : (z : SizeSet) (used : ℕ → Bool) (r : Reservation) (k m i : ℕ) → yield_in z used r ≡ Some k → i < part_count m r
    → yield_in z used (part_at m r i) ≡ Some k
    → (j : ℕ) × (lowest_as_wide z m used r ≡ Some j) × (j < part_count m r) × (yield_in z used (part_at m r j) ≡ Some k)
lowest_found z used r k m i is one part =
    let test : ℕ → Bool = λ n. same_size (yield_in z used (part_at m r n)) (yield_in z used r) in
    let passes : test i ≡ true = rw (part, is) (eq-eqb k k refl) in
    let found = find_range test 0 (part_count m r) i (omega arith) (omega arith) passes in
    let same : same_size (yield_in z used (part_at m r found.0)) (Some k) ≡ true =
    ap (same_size (yield_in z used (part_at m r found.0))) (sym is) ∙ found.3 in
    (found.0, found.1, omega (arith, found.2), same_size_from _ k same)

-- the part at which a breaking goes on
pub goes_on : (z : SizeSet) (m : ℕ) (used : ℕ → Bool) (r : Reservation) (i : ℕ) → has_empty used r m ≡ false
    → lowest_as_wide z m used r ≡ Some i → goes_on_in z m used r ≡ Some (part_at m r i)
goes_on z m used r i none lowest = cond-false _ _ _ none ∙ ap (option_map (part_at m r)) lowest
