-- Extents by their numbers, ranges with one number more, and what emptying costs.
use Rattle.std.proofs.Common.{◌≡◌, ◌≤◌, ◌<◌, ℕ, zero, suc, ◌+◌, ◌-◌, ◌*◌, ◌/◌, ◌%◌, Bool, true, false, cond, not, List, [], ◌∷◌, ◌++◌, count_by, Option, Some, None, inl, inr, refl, sym, ap, subst, ◌∙◌, arith}
use Rattle.std.specs.List.{range_with_len, list_all}
use Rattle.std.proofs.Math.Nat.{mul_comm, mul-suc, mul-le-mul_left, mul-div-le, div-add-mod, lt-mul-div-succ}
use Rattle.std.proofs.lemmas.Bool.{cases_Bool, cases_lt, cond-true, cond-false, false≢true}
use Rattle.std.proofs.lemmas.Grind.{flat_map-append}
use Rattle.std.proofs.lemmas.List.{append-nil}
use Rattle.std.proofs.lemmas.List.Concat.{flat_map-cons}
use Rattle.pager_model.proofs.CountLemmas.{count-apart}
use Rattle.pager_model.proofs.Ranges.{list_all-range}
use Rattle.contiguity_plan.specs.declared.table.Use.{Use}
use Rattle.contiguity_plan.specs.Costs.{page_list, pages_in, emptying}
use Rattle.contiguity_plan.specs.Tables.{use_in}

-- the extent of a number lies within the frames
pub extent_fits : (number count frames : ℕ) → number < frames / count → number * count + count ≤ frames
extent_fits number count frames below =
    let one = mul-le-mul_left {m = suc number} {n = frames / count} count below in
    let two = mul-div-le frames count in
    let three = mul-suc count number in
    let four = mul_comm number count in
    omega (arith, one, two, three, four)

-- and each extent within the frames has a number
pub number_of : (first count frames : ℕ) → 0 < count → first % count ≡ 0 → first + count ≤ frames
    → (first / count < frames / count) × (first / count * count ≡ first)
number_of first count frames some aligned within =
    let parts = div-add-mod first count in
    let swapped = mul_comm (first / count) count in
    let is : first / count * count ≡ first = omega (arith, parts, swapped, aligned) in (
      elim (cases_lt (first / count) (frames / count)) [
        | inl below ↦ below
        | inr past ↦
            let one = mul-le-mul_left {m = frames / count} {n = first / count} count past in
            let two = lt-mul-div-succ frames {b = count} some in
            let three = mul-suc count (frames / count) in
            let next : frames / count + 1 ≡ suc (frames / count) = omega arith in
            let four : frames < count * suc (frames / count) = subst (λ n. frames < count * n) next two in
            absurd (omega (arith, one, three, four, parts, within))
      ],
      is,
    )

-- one number more
pub range-more : (a n j : ℕ) → a + n ≡ j → range_with_len a (suc n) ≡ range_with_len a n ++ j ∷ []
range-more a zero j is = ap (λ i. i ∷ []) (omega (arith, is))
range-more a (suc n) j is = ap (λ l. a ∷ l) (range-more (a + 1) n j (omega (arith, is)))

pub range_to-more : (a j : ℕ) → a ≤ j → range_with_len a (j + 1 - a) ≡ range_with_len a (j - a) ++ j ∷ []
range_to-more a j past =
    let more : j + 1 - a ≡ suc (j - a) = omega (arith, past) in
    ap (range_with_len a) more ∙ range-more a (j - a) j (omega (arith, past))

pub count_to-more : (used : ℕ → Bool) (a j : ℕ) → a ≤ j
    → count_by used (range_with_len a (j + 1 - a)) ≡ count_by used (range_with_len a (j - a)) + cond (used j) 1 0
count_to-more used a j past =
    let more : j + 1 - a ≡ (j - a) + 1 = omega (arith, past) in
    let split = count-apart used a (j - a) 1 j (omega (arith, past)) in
    let last : count_by used (range_with_len j 1) ≡ cond (used j) 1 0 = one (used j) in
    ap (λ n. count_by used (range_with_len a n)) more ∙ split ∙ ap (λ n. count_by used (range_with_len a (j - a)) + n) last
  where
    one : (b : Bool) → 0 + cond b 1 0 ≡ cond b 1 0
    one true = refl
    one false = refl

-- a frame that stays makes the cost none
pub emptying-none : (fixed used : ℕ → Bool) (first count f : ℕ) → first ≤ f → f < first + count → fixed f ≡ true
    → None ≡ emptying fixed used first count
emptying-none fixed used first count f low high stays = elim (cases_Bool (list_all (λ f. not (fixed f)) (range_with_len first count))) [
  | inl all ↦
      let loose = (list_all-range (λ f. not (fixed f)) first count).0 all f low high in
      absurd (false≢true (sym (ap not stays) ∙ loose))
  | inr some ↦ sym (cond-false _ (Some (count_by used (range_with_len first count))) None some)
]

pub emptying-some : (fixed used : ℕ → Bool) (first count cost : ℕ) → ((f : ℕ) → first ≤ f → f < first + count → fixed f ≡ false)
    → cost ≡ count_by used (range_with_len first count)
    → Some cost ≡ emptying fixed used first count
emptying-some fixed used first count cost loose is =
    let all : list_all (λ f. not (fixed f)) (range_with_len first count) ≡ true =
    (list_all-range (λ f. not (fixed f)) first count).1 (λ f low high. ap not (loose f low high)) in
    ap Some is ∙ sym (cond-true _ (Some (count_by used (range_with_len first count))) None all)

pub weight-small : (b : Bool) → cond b 1 0 ≤ 1
weight-small true = omega arith
weight-small false = omega arith

-- the pages of one frame more
pub pages_to-more : (uses : List (Option Use)) (a j : ℕ) → a ≤ j
    → pages_in uses (range_with_len a (j + 1 - a)) ≡ pages_in uses (range_with_len a (j - a)) ++ page_list (use_in uses j)
pages_to-more uses a j past =
    let pages = λ (f : ℕ). page_list (use_in uses f) in
    ap (pages_in uses) (range_to-more a j past) ∙ flat_map-append pages (range_with_len a (j - a)) (j ∷ [])
    ∙ ap (λ l. pages_in uses (range_with_len a (j - a)) ++ l) (flat_map-cons pages j [] ∙ append-nil (pages j))
