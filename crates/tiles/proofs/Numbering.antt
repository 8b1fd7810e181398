-- How many pages have numbers: no more than there are numbers, where no two pages have one. So three nodes for each number are room enough.
use Rattle.std.proofs.Common.{◌≡◌, ◌≢◌, ℕ, zero, suc, ◌+◌, ◌<◌, ◌≤◌, Bool, true, false, ◌||◌, eqb, ltb, if◌then◌else◌, Option, Some, None, is_some, inl, inr, refl, sym, ap, ◌∙◌, arith}
use Rattle.std.proofs.lemmas.Bool.{cases_eq, cases_lt, cases_Bool, false≢true, false_from_ne_true, eq-eqb, ne_eqb, eqb-true, lt-ltb}
use Rattle.std.proofs.lemmas.Bool.Decides.{nat_tests}
use Rattle.pager_model.proofs.CountLemmas.{weight}
use Rattle.extent_tree.proofs.Counting.{count_le}
use Rattle.std.specs.List.{range_with_len, count_by}
use Rattle.tiles.proofs.Counting.{count, count-is, count-zero, count-suc, count-none}

-- no two pages have one number
abbrev pub AreApart : (ℕ → Option ℕ) → Type 0
AreApart numbers = (p q n : ℕ) → numbers p ≡ Some n → numbers q ≡ Some n → p ≡ q

abbrev pub is_below : Option ℕ → ℕ → Bool
is_below None many = false
is_below (Some n) many = ltb n many

abbrev pub is_number : Option ℕ → ℕ → Bool
is_number None n = false
is_number (Some m) n = eqb m n

number-true : (o : Option ℕ) (n : ℕ) → is_number o n ≡ true → o ≡ Some n
number-true None n is = absurd (false≢true is)
number-true (Some m) n is = ap Some (eqb-true m n is)

-- one at most passes
count-one : (f : ℕ → Bool) (from many : ℕ) → ((p q : ℕ) → f p ≡ true → f q ≡ true → p ≡ q) → count f from many ≤ 1
count-one f from zero one = omega (arith, count-zero f from)
count-one f from (suc many) one = elim (cases_Bool (f from)) [
  | inl is ↦
      let rest = count-none f (from + 1) many (λ n low high. false_from_ne_true _ (λ also. absurd (omega (arith, one n from also is)))) in
      omega (arith, count-suc f from many, ap weight is, rest)
  | inr fails ↦ omega (arith, count-suc f from many, ap weight fails, count-one f (from + 1) many one)
]

-- each that passes one test passes one of two others
count-either : (f g h : ℕ → Bool) (from many : ℕ) → ((n : ℕ) → weight (f n) ≤ weight (g n) + weight (h n))
    → count f from many ≤ count g from many + count h from many
count-either f g h from zero each = omega (arith, count-zero f from)
count-either f g h from (suc many) each =
    omega (arith, count-suc f from many, count-suc g from many, count-suc h from many, each from, count-either f g h (from + 1) many each)

below-suc : (o : Option ℕ) (many : ℕ) → weight (is_below o (suc many)) ≤ weight (is_below o many) + weight (is_number o many)
below-suc None many = omega arith
below-suc (Some n) many = elim (cases_lt n many) [
  | inl low ↦ omega (arith, ap weight (lt-ltb n (suc many) (omega arith)), ap weight (lt-ltb n many low))
  | inr high ↦ elim (cases_eq n many) [
    | inl e ↦ omega (arith, ap weight (lt-ltb n (suc many) (omega arith)), ap weight (eq-eqb n many e))
    | inr apart ↦ let t : ltb n (suc many) ≡ false = grind (arith, nat_tests) in omega (arith, ap weight t)
  ]
]

below-zero : (o : Option ℕ) → is_below o 0 ≡ false
below-zero None = refl
below-zero (Some n) = let t : ltb n 0 ≡ false = grind (arith, nat_tests) in t

-- so many numbers, so many pages at most
pub count-few : (numbers : ℕ → Option ℕ) (pages many : ℕ) → AreApart numbers → count (λ p. is_below (numbers p) many) 0 pages ≤ many
count-few numbers pages zero apart = omega (arith, count-none (λ p. is_below (numbers p) 0) 0 pages (λ p _ _. below-zero (numbers p)))
count-few numbers pages (suc many) apart =
    let last = count-one (λ p. is_number (numbers p) many) 0 pages (λ p q has also. apart p q many (number-true (numbers p) many has)
    (number-true (numbers q) many also)) in
    omega (
      arith,
      last,
      count-few numbers pages many apart,
      count-either (λ p. is_below (numbers p) (suc many))
          (λ p. is_below (numbers p) many) (λ p. is_number (numbers p) many) 0 pages (λ p. below-suc (numbers p) many),
    )

-- The pages have numbers below a bound, and a page may have one that no other page has.
pub record MayHave (numbers : ℕ → Option ℕ) (many page number : ℕ) : Type 0 where
  pub known : number < many
  pub others : (p : ℕ) → p ≢ page → numbers p ≢ Some number
  pub within : (p n : ℕ) → numbers p ≡ Some n → n < many
  pub apart : AreApart numbers

module _ (numbers : ℕ → Option ℕ) (many page number : ℕ) (may_have : MayHave numbers many page number) where
  open may_have use {known, others, within, apart}

  after : ℕ → Option ℕ
  after p = if eqb p page then Some number else numbers p

  after-page : (p : ℕ) → p ≡ page → after p ≡ Some number
  unfolding after
  after-page p e = ap (λ (b : Bool). if b then Some number else numbers p) (eq-eqb p page e)

  after-other : (p : ℕ) → p ≢ page → after p ≡ numbers p
  unfolding after
  after-other p n = let t : eqb p page ≡ false = grind (arith, nat_tests) in ap (λ (b : Bool). if b then Some number else numbers p) t

  after-apart : AreApart after
  after-apart p q n at_p at_q = elim (cases_eq p page) [
    | inl e ↦ elim (cases_eq q page) [
      | inl f ↦ e ∙ sym f
      | inr other ↦ absurd (others q other (sym (after-other q other) ∙ at_q ∙ sym at_p ∙ after-page p e))
    ]
    | inr other ↦ elim (cases_eq q page) [
      | inl f ↦ absurd (others p other (sym (after-other p other) ∙ at_p ∙ sym at_q ∙ after-page q f))
      | inr another ↦ apart p q n (sym (after-other p other) ∙ at_p) (sym (after-other q another) ∙ at_q)
    ]
  ]

  -- a page that has a number, or is this one, passes
  after-within : (p : ℕ) → (is_some (numbers p) || eqb p page) ≡ true → is_below (after p) many ≡ true
  after-within p has = elim (cases_eq p page) [
    | inl e ↦ ap (λ o. is_below o many) (after-page p e) ∙ lt-ltb number many known
    | inr other ↦ ap (λ o. is_below o many) (after-other p other) ∙ of (numbers p) refl
        (sym (or_off (is_some (numbers p)) (eqb p page) (ne_eqb p page other)) ∙ has)
  ]
    where
      or_off : (b c : Bool) → c ≡ false → (b || c) ≡ b
      or_off true c off = refl
      or_off false c off = off

      of : (o : Option ℕ) → numbers p ≡ o → is_some o ≡ true → is_below o many ≡ true
      of None is some = absurd (false≢true some)
      of (Some n) is some = lt-ltb n many (within p n is)

  -- so they are no more than the numbers
  pub few_with : (pages : ℕ) → count_by (λ p. is_some (numbers p) || eqb p page) (range_with_len 0 pages) ≤ many
  few_with pages =
      omega (
        arith,
        count_le (λ p. is_some (numbers p) || eqb p page) (λ p. is_below (after p) many) 0 pages after-within,
        count-is (λ p. is_below (after p) many) 0 pages,
        count-few after pages many after-apart,
      )
