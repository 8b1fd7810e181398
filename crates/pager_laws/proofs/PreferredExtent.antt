-- The extent of pages that a new reservation has: it is round the page, and no reservation of the space has a page of it.
use Rattle.std.proofs.Common.{◌≡◌, ◌<◌, ◌≤◌, ℕ, zero, suc, ◌+◌, ◌-◌, ◌*◌, ◌/◌, ◌^◌, Bool, true, false, ◌&&◌, ◌||◌, List, [], ◌∷◌, Option, Some, None, refl, inl, inr, sym, ap, ◌∙◌, arith}
use Rattle.std.proofs.Math.Nat.{pow-le-pow_right, div-mul-le_self, lt-div-mul-add, div-lt_iff_lt-mul, le-div_iff_mul-le, mul-le-mul_right, mul_assoc, add-mul}
use Rattle.std.proofs.lemmas.Bool.{cases_Bool, cond_both, cond-true, cond-false, and_from, and_parts, or_from, eq-eqb, lt-ltb, le-leb, ltb-true, leb-true, not-true, not_from_false, false_from_ne_true, false≢true}
use Rattle.std.proofs.lemmas.List.Folds.{list_any_at}
use Rattle.pager_model.specs.declared.entry.Want.{Want}
use Rattle.pager_model.specs.declared.reservation.Reservation.{Reservation}
use Rattle.pager_model.specs.Extents.{extent_start}
use Rattle.pager_model.specs.Layouts.{Layout, covers, covering, meets, meets_any, preferred_in, record_at}
use Rattle.pager_model.specs.PreferredSize.{fits, preferred_size, largest_fitting, preferred_among}
use Rattle.pager_model.specs.SizeSets.{SizeSet, has_size, size_within}
use Rattle.pager_model.proofs.SizeFloors.{within_has, within_skips}
use Rattle.pager_model.proofs.ExtentLemmas.{eight_pos, eight_split}
use Rattle.pager_model.proofs.Lists.{get_or_within}
use Rattle.pager_laws.proofs.PagePlaces.{CoversPageOf-covers, covering-none}

-- no reservation of the space has a page of the extent of the size round the page
abbrev pub Misses : Layout → ℕ → ℕ → ℕ → Type 0
Misses l space page size =
    (id p : ℕ) (r : Reservation) → record_at l id ≡ Some r → covers space p r ≡ true → extent_start size page ≤ p
    → p < extent_start size page + 8 ^ size → ⊥

-- the extent round a page has the page
pub extent_low : (size page : ℕ) → extent_start size page ≤ page
extent_low size page = div-mul-le_self page (8 ^ size)

pub extent_high : (size page : ℕ) → page < extent_start size page + 8 ^ size
extent_high size page = lt-div-mul-add (eight_pos size)

-- of two extents round a page the smaller one lies inside the larger one
extent_inside : (k size page : ℕ) → k ≤ size
    → (extent_start size page ≤ extent_start k page) × (extent_start k page + 8 ^ k ≤ extent_start size page + 8 ^ size)
extent_inside k size page le =
    let w = 8 ^ k in
    let u = 8 ^ (size - k) in
    let q = page / 8 ^ size in
    let many = page / w in
    let split : 8 ^ size ≡ u * w = eight_split k size le in
    let start : q * 8 ^ size ≡ q * u * w = ap (λ n. q * n) split ∙ sym (mul_assoc q u w) in
    let end : (q * u + u) * w ≡ q * u * w + u * w = add-mul (q * u) u w in
    let low : q * u ≤ many = (le-div_iff_mul-le (eight_pos k)).1 (omega (arith, start, extent_low size page)) in
    let high : many < q * u + u = (div-lt_iff_lt-mul (eight_pos k)).1 (omega (arith, start, split, end, extent_high size page)) in
    let next : (many + 1) * w ≡ many * w + 1 * w = add-mul many 1 w in
    (omega (arith, start, mul-le-mul_right w low), omega (arith, start, split, end, next, mul-le-mul_right w high))

-- no reservation meets an extent that meets none by the test
Misses-test : (l : Layout) (space page size : ℕ) → meets_any space l.records size (extent_start size page) ≡ false
    → Misses l space page size
Misses-test l space page size none id p r is has low high =
    let at = CoversPageOf-covers space p r has in
    let start = extent_start size page in
    let here : meets space size start (Some r) ≡ true =
    and_from _ _ (eq-eqb r.space space at.space_is)
    (and_from _ _ (lt-ltb r.first (start + 8 ^ size) (omega (arith, at.low)))
    (lt-ltb start (r.first + 8 ^ r.size) (omega (arith, at.high)))) in
    let any : meets_any space l.records size start ≡ true = list_any_at (meets space size start) l.records id None
    (get_or_within l.records id r is) (ap (meets space size start) is ∙ here) in
    false≢true (sym none ∙ any)

-- nor does any meet the page alone, where none has it
Misses-alone : (l : Layout) (space page : ℕ) → covering space page l.records ≡ None → Misses l space page 0
Misses-alone l space page none id p r is has low high =
    let same : p ≡ page = omega arith in
    false≢true (sym (covering-none space page l.records none id r is) ∙ ap (λ n. covers space n r) (sym same) ∙ has)

-- what fits meets nothing
meets_none : (test : ℕ → ℕ → Bool) (page : ℕ) (want : Want) (k : ℕ) → fits test page want k ≡ true → test k (extent_start k page) ≡ false
meets_none test page want k passes = not-true _ (and_parts _ _ (and_parts _ _ passes).1).1

-- the extent of the preferred size meets none
pub Misses-fitting : (z : SizeSet) (l : Layout) (space page : ℕ) (want : Want) → covering space page l.records ≡ None → (k : ℕ)
    → Misses l space page (largest_fitting z (meets_any space l.records) page want k)
Misses-fitting z l space page want none zero = Misses-alone l space page none
Misses-fitting z l space page want none (suc k) =
    let test = meets_any space l.records in
    cond_both (has_size z (suc k) && fits test page want (suc k)) (suc k) (largest_fitting z test page want k) (Misses l space page)
    (λ both. Misses-test l space page (suc k) (meets_none test page want (suc k) (and_parts _ _ both).1))
    (λ _. Misses-fitting z l space page want none k)

pub Misses-preferred : (l : Layout) (space page : ℕ) (want : Want) → covering space page l.records ≡ None
    → Misses l space page (preferred_in l space page want)
Misses-preferred l space page want none = Misses-fitting l.sizes l space page want none 3

-- nor does a smaller one
pub Misses-smaller : (l : Layout) (space page k size : ℕ) → k ≤ size → Misses l space page size → Misses l space page k
Misses-smaller l space page k size le misses id p r is has low high =
    let within = extent_inside k size page le in
    misses id p r is has (omega (arith, within.0)) (omega (arith, within.1))

-- The preferred size of some sizes.

-- an extent that meets nothing has no smaller one that does
meets_smaller : (space j k page : ℕ) (o : Option Reservation) → j ≤ k → meets space k (extent_start k page) o ≡ false
    → meets space j (extent_start j page) o ≡ false
meets_smaller space j k page None le none = refl
meets_smaller space j k page (Some r) le none = false_from_ne_true _ (λ is.
    let within = extent_inside j k page le in
    let parts = and_parts _ _ is in
    let ends = and_parts _ _ parts.1 in
    let low = ltb-true r.first (extent_start j page + 8 ^ j) ends.0 in
    let high = ltb-true (extent_start j page) (r.first + 8 ^ r.size) ends.1 in
    false≢true (sym none ∙ and_from _ _ parts.0
    (and_from _ _ (lt-ltb r.first (extent_start k page + 8 ^ k) (omega (arith, low, within.1)))
    (lt-ltb (extent_start k page) (r.first + 8 ^ r.size) (omega (arith, high, within.0))))))

any_smaller : (space j k page : ℕ) (records : List (Option Reservation)) → j ≤ k → meets_any space records k (extent_start k page) ≡ false
    → meets_any space records j (extent_start j page) ≡ false
any_smaller space j k page [] le none = refl
any_smaller space j k page (o ∷ rs) le none =
    let parts = or_parts (meets space k (extent_start k page) o) (meets_any space rs k (extent_start k page)) none in
    or_from _ _ (meets_smaller space j k page o le parts.0) (any_smaller space j k page rs le parts.1)
  where
    or_parts : (a b : Bool) → (a || b) ≡ false → (a ≡ false) × (b ≡ false)
    or_parts true b fails = absurd (false≢true (sym fails))
    or_parts false b fails = (refl, fails)

fits_smaller : (space j k page : ℕ) (records : List (Option Reservation)) (want : Want) → j ≤ k
    → fits (meets_any space records) page want k ≡ true → fits (meets_any space records) page want j ≡ true
fits_smaller space j k page records want le passes =
    let within = extent_inside j k page le in
    let both = and_parts _ _ passes in
    let ends = and_parts _ _ both.0 in
    let rest = and_parts _ _ both.1 in
    let low = leb-true want.low (extent_start k page) ends.0 in
    let high = leb-true (extent_start k page + 8 ^ k) want.high ends.1 in
    let cap = leb-true (8 ^ k) want.cap rest.0 in
    let positive : 0 < 8 = omega arith in
    let smaller : 8 ^ j ≤ 8 ^ k = pow-le-pow_right positive le in
    and_from _ _ (and_from _ _ (le-leb want.low (extent_start j page) (omega (arith, low, within.0)))
    (le-leb (extent_start j page + 8 ^ j) want.high (omega (arith, high, within.1))))
    (and_from _ _ (le-leb (8 ^ j) want.cap (omega (arith, cap, smaller)))
    (not_from_false _ (any_smaller space j k page records le (not-true _ rest.1))))

module _ (z : SizeSet) (space page : ℕ) (records : List (Option Reservation)) (want : Want) where
  abbrev fit : ℕ → Bool
  fit k = fits (meets_any space records) page want k

  abbrev fitting : ℕ → ℕ
  fitting k = largest_fitting z (meets_any space records) page want k

  -- where a size fits, the largest of the others up to it fits
  fitting_all : (k : ℕ) → (0 < k → fit k ≡ true) → fitting k ≡ size_within z k
  fitting_all zero passes = refl
  fitting_all (suc k) passes = elim (cases_Bool (has_size z (suc k))) [
    | inl is ↦ cond-true _ _ _ (and_from _ _ is (passes (omega arith))) ∙ sym (within_has z (suc k) is)
    | inr not ↦
        cond-false _ _ _ (ap (λ b. b && fit (suc k)) not)
        ∙ fitting_all k (λ _. fits_smaller space k (suc k) page records want (omega arith) (passes (omega arith)))
        ∙ sym (within_skips z k not)
  ]

  fitting_less : (k : ℕ) → fit (suc k) ≡ false → fitting (suc k) ≡ fitting k
  fitting_less k missed = cond-false _ _ _ (right_false (has_size z (suc k)) (fit (suc k)) missed)
    where
      right_false : (a b : Bool) → b ≡ false → (a && b) ≡ false
      right_false true b fails = fails
      right_false false b fails = refl

  -- the preferred size of some sizes is the largest of them that is at most the one of all four
  pub preferred_among-within : preferred_among z (meets_any space records) page want
      ≡ size_within z (preferred_size (meets_any space records) page want)
  preferred_among-within = elim (cases_Bool (fit 3)) [
    | inl three ↦ fitting_all 3 (λ _. three) ∙ ap (size_within z) (sym (cond-true _ _ _ three))
    | inr not_three ↦ fitting_less 2 not_three ∙ elim (cases_Bool (fit 2)) [
      | inl two ↦ fitting_all 2 (λ _. two) ∙ ap (size_within z) (sym (cond-false _ _ _ not_three ∙ cond-true _ _ _ two))
      | inr not_two ↦ fitting_less 1 not_two ∙ elim (cases_Bool (fit 1)) [
        | inl one ↦ fitting_all 1 (λ _. one) ∙ ap (size_within z) (sym
            (cond-false _ _ _ not_three ∙ cond-false _ _ _ not_two ∙ cond-true _ _ _ one))
        | inr not_one ↦
            fitting_less 0 not_one
            ∙ ap (size_within z) (sym (cond-false _ _ _ not_three ∙ cond-false _ _ _ not_two ∙ cond-false _ _ _ not_one))
      ]
    ]
  ]
