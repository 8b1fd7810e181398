-- Steps towards a yield, from the largest size down.
use Rattle.std.proofs.Common.{◌≡◌, ◌<◌, ◌≤◌, ℕ, zero, suc, ◌+◌, ◌-◌, ◌*◌, ◌/◌, ◌%◌, ◌^◌, Bool, true, false, not, ◌||◌, cond, ltb, eqb, Option, Some, None, List, [], ◌∷◌, length, drop, map, count_by, refl, ap, sym, subst, ◌∙◌, arith, inl, inr}
use Rattle.std.specs.List.{range_with_len, list_any, list_all, slice_range}
use Rattle.std.proofs.lemmas.List.{length-take-le, length-drop, get_or-take, get_or-drop}
use Rattle.std.proofs.lemmas.List.FromFn.{length-range_with_len, get_or-range_with_len, fill_by_all}
use Rattle.std.proofs.lemmas.List.Folds.{Any-from_list_any, sum_by-zero}
use Rattle.std.proofs.lemmas.Bool.{cond-true, cond-false, cases_Bool, cases_eq, cases_lt, false≢true}
use Rattle.std.proofs.lemmas.Bool.Decides.{nat_tests}
use Rattle.std.proofs.lemmas.Nat.{mul-le, div-add-mod'}
use Rattle.std.proofs.Math.Nat.{div-mul-le_self}
use Rattle.pager_model.specs.Records.{is_used, none_used, has_empty, yield_up_to, yield_of}
use Rattle.pager_model.specs.RecordPlaces.{IsPlaced}
use Rattle.pager_model.specs.declared.reservation.Reservation.{Reservation}
use Rattle.pager_model.proofs.CountLemmas.{count-most}
use Rattle.pager_model.proofs.ExtentLemmas.{eight_pos, eight_split, eight_quotient, part_inside, aligned_part}
use Rattle.pager_model.proofs.RecordFrames.{has_empty-yes, unused_in}
use Rattle.reservations.specs.Counts.{used_in, AreCounts}
use Rattle.reservations.proofs.CountLemmas.{any-count}

-- the largest size below a bound of an extent inside the reservation without a used place
abbrev pub yield_below : (ℕ → Bool) → Reservation → ℕ → Option ℕ
yield_below used r zero = None
yield_below used r (suc k) = yield_up_to used r k

pub found_at : (used : ℕ → Bool) (r : Reservation) (k : ℕ) → has_empty used r k ≡ true → yield_up_to used r k ≡ Some k
found_at used r zero is = cond-true _ _ _ is
found_at used r (suc k) is = cond-true _ _ _ is

pub yield_below-found : (used : ℕ → Bool) (r : Reservation) (level k : ℕ) → level ≡ suc k → has_empty used r k ≡ true
    → yield_below used r level ≡ Some k
yield_below-found used r level k at is = subst (λ n. yield_below used r n ≡ Some k) (sym at) (found_at used r k is)

pub missed_at : (used : ℕ → Bool) (r : Reservation) (k : ℕ) → has_empty used r k ≡ false → yield_up_to used r k ≡ yield_below used r k
missed_at used r zero no_one = cond-false _ _ _ no_one
missed_at used r (suc k) no_one = cond-false _ _ _ no_one

pub yield_below-missed : (used : ℕ → Bool) (r : Reservation) (level k : ℕ) → level ≡ suc k → has_empty used r k ≡ false
    → yield_below used r level ≡ yield_below used r k
yield_below-missed used r level k at no_one = subst (λ n. yield_below used r n ≡ yield_below used r k) (sym at) (missed_at used r k no_one)

-- an extent without a used place has the count 0
none_counted : (p : ℕ → Bool) (a n : ℕ) → eqb (count_by p (range_with_len a n)) 0 ≡ none_used p a n
none_counted p a n = sum_by-zero (λ x. cond (p x) 1 0) (range_with_len a n)
    ∙ ap (λ q. list_all q (range_with_len a n)) (λ i x. alone (p x) i)
  where
    alone : (b : Bool) → eqb (cond b 1 0) 0 ≡ not b
    alone true = refl
    alone false = refl

-- a reservation is full where its own count is that of its frames
pub full_count : (used : List Bool) (r : Reservation) (n m : ℕ) → n ≡ used_in used r.frame (8 ^ r.size) → m ≡ 8 ^ r.size
    → eqb n m ≡ not (has_empty (is_used used) r 0)
full_count used r n m count all =
    let size : r.size - 0 ≡ r.size = omega arith in
    let start : r.frame + 0 ≡ r.frame = omega arith in
    let any = any-count (is_used used) r.frame (8 ^ r.size) 0 in
    let at_zero : has_empty (is_used used) r 0 ≡ ltb (used_in used r.frame (8 ^ r.size)) (8 ^ r.size) =
    ap (λ s. list_any (λ i. none_used (is_used used) (r.frame + i * 1) 1) (range_with_len 0 (8 ^ s))) size
    ∙ any ∙ ap (λ a. ltb (used_in used a (8 ^ r.size)) (8 ^ r.size)) start in
    let most = count-most (is_used used) r.frame (8 ^ r.size) in
    rw (count, all, at_zero) (grind (arith, nat_tests))

-- where that is 0, the whole is empty
pub whole_count : (used : List Bool) (r : Reservation) (n : ℕ) → n ≡ used_in used r.frame (8 ^ r.size)
    → eqb n 0 ≡ has_empty (is_used used) r r.size
whole_count used r n count =
    let one : r.size - r.size ≡ 0 = omega arith in
    let start : r.frame + 0 * 8 ^ r.size ≡ r.frame = omega arith in
    count_is (λ m. eqb m 0) ∙ none_counted (is_used used) r.frame (8 ^ r.size) ∙ sym (
    ap (λ s. list_any (λ i. none_used (is_used used) (r.frame + i * 8 ^ r.size) (8 ^ r.size)) (range_with_len 0 (8 ^ s))) one
    ∙ ap (λ a. none_used (is_used used) a (8 ^ r.size) || false) start
    ∙ or_false (none_used (is_used used) r.frame (8 ^ r.size))
    )
  where
    count_is : (p : ℕ → Bool) → p n ≡ p (used_in used r.frame (8 ^ r.size))
    count_is p = ap p count

    or_false : (b : Bool) → (b || false) ≡ b
    or_false true = refl
    or_false false = refl

-- so one that is neither has more than one frame
pub has_parts : (used : ℕ → Bool) (r : Reservation) → has_empty used r 0 ≡ true → has_empty used r r.size ≡ false → 0 < r.size
has_parts used r some no_whole = elim (cases_eq r.size 0) [
  | inl base ↦ absurd (false≢true (sym no_whole ∙ ap (has_empty used r) base ∙ some))
  | inr other ↦ omega (arith, other)
]

-- no extent inside a full one is empty
pub full_none : (used : ℕ → Bool) (r : Reservation) (k : ℕ) → has_empty used r 0 ≡ false → k ≤ r.size → has_empty used r k ≡ false
full_none used r k full le = elim (cases_Bool (has_empty used r k)) [
  | inr is ↦ is
  | inl is ↦
      let parts = 8 ^ (r.size - k) in
      let some = Any-from_list_any (λ i. none_used used (r.frame + i * 8 ^ k) (8 ^ k)) (range_with_len 0 parts) is in
      let i = some.1 in
      let known : some.0 < parts = omega (arith, length-range_with_len 0 parts, some.2) in
      let within : i < parts = omega (arith, known, some.3, get_or-range_with_len 0 parts some.0 i known) in
      let unused = unused_in used (r.frame + i * 8 ^ k) (8 ^ k) some.4 (r.frame + i * 8 ^ k) (omega arith) (omega (arith, eight_pos k)) in
      let inside : i * 8 ^ k < 8 ^ (r.size - 0) = omega (
        arith,
        part_inside i (8 ^ k) parts within,
        eight_split k r.size le,
        eight_pos k,
        size,
      ) in
      let here : r.frame + i * 8 ^ k * 1 ≡ r.frame + i * 8 ^ k = omega arith in
      let alone : none_used used (r.frame + i * 8 ^ k * 1) 1 ≡ true = rw (here, unused) refl in
      absurd (false≢true (sym full ∙ has_empty-yes used r 0 (i * 8 ^ k) inside alone))
]
  where
    size : 8 ^ (r.size - 0) ≡ 8 ^ r.size
    size = let same : r.size - 0 ≡ r.size = omega arith in ap (λ s. 8 ^ s) same

pub yield_of-full : (used : ℕ → Bool) (r : Reservation) → has_empty used r 0 ≡ false → yield_of used r ≡ None
yield_of-full used r full = down r.size (omega arith)
  where
    down : (k : ℕ) → k ≤ r.size → yield_up_to used r k ≡ None
    down zero le = cond-false _ _ _ full
    down (suc k) le = cond-false _ _ _ (full_none used r (suc k) full le) ∙ down k (omega arith)

-- the counts of the extents inside a reservation are in the list
pub counts_known : (used : List Bool) (r : Reservation) (k : ℕ) (counts : List ℕ) → AreCounts used (8 ^ k) counts
    → IsPlaced (length used) r.frame r → k ≤ r.size → r.frame / 8 ^ k + 8 ^ r.size / 8 ^ k ≤ length counts
counts_known used r k counts are placed le =
    let w = 8 ^ k in
    let first = r.frame / w in
    let many = 8 ^ r.size / w in
    let parts : many * w ≡ 8 ^ r.size = ap (λ n. n * w) (eight_quotient k r.size le) ∙ sym (eight_split k r.size le) in
    let frames : first * w + many * w ≤ length counts * w = omega (arith, div-mul-le_self r.frame w, parts, placed.within, are.long) in
    elim (cases_lt (length counts) (first + many)) [
      | inr within ↦ within
      | inl short ↦ absurd (omega (arith, frames, eight_pos k, mul-le (length counts + 1) w (first + many) w (omega arith) (omega arith)))
    ]

-- they stand together
pub counts_inside : (used : List Bool) (r : Reservation) (k : ℕ) (counts : List ℕ) → AreCounts used (8 ^ k) counts
    → IsPlaced (length used) r.frame r → k ≤ r.size
    → slice_range counts (r.frame / 8 ^ k) (r.frame / 8 ^ k + 8 ^ r.size / 8 ^ k) ≡ map (λ i. used_in used (r.frame + i * 8 ^ k) (8 ^ k))
    (range_with_len 0 (8 ^ (r.size - k)))
counts_inside used r k counts are placed le =
    let w = 8 ^ k in
    let first = r.frame / w in
    let many = 8 ^ r.size / w in
    let known = counts_known used r k counts are placed le in
    let aligned : r.frame % w ≡ 0 = subst (λ n. n % w ≡ 0) {y = r.frame} (omega arith)
    (aligned_part k r.size r.frame 0 le placed.aligned.1) in
    let long : length (slice_range counts first (first + many)) ≡ many =
    length-take-le (first + many - first) (drop first counts) (omega (arith, known, length-drop first counts)) ∙ omega arith in
    fill_by_all (λ i. used_in used (r.frame + i * w) w) (slice_range counts first (first + many)) many 0 long (λ i below.
    let at : (first + i) * w ≡ r.frame + i * w = omega (arith, aligned, div-add-mod' r.frame w) in
    get_or-take (first + many - first) (drop first counts) i 0 (omega arith)
    ∙ get_or-drop first counts i 0
    ∙ are.exact (first + i)
    ∙ ap (λ a. used_in used a w) at)
    ∙ ap (λ n. map (λ i. used_in used (r.frame + i * w) w) (range_with_len 0 n)) (eight_quotient k r.size le)

-- a search for a count of 0 finds an empty extent
pub has_empty-counted : (used : List Bool) (r : Reservation) (k : ℕ) (counts : List ℕ)
    → counts ≡ map (λ i. used_in used (r.frame + i * 8 ^ k) (8 ^ k)) (range_with_len 0 (8 ^ (r.size - k)))
    → list_any (λ n. eqb n 0) counts ≡ has_empty (is_used used) r k
has_empty-counted used r k counts are = ap (list_any (λ n. eqb n 0)) are ∙ each (range_with_len 0 (8 ^ (r.size - k)))
  where
    each : (is : List ℕ) → list_any (λ n. eqb n 0) (map (λ i. used_in used (r.frame + i * 8 ^ k) (8 ^ k)) is) ≡ list_any
        (λ i. none_used (is_used used) (r.frame + i * 8 ^ k) (8 ^ k)) is
    each [] = refl
    each (i ∷ is) = rw (none_counted (is_used used) (r.frame + i * 8 ^ k) (8 ^ k), each is) refl
