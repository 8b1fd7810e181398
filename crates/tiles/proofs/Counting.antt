-- How many pages of a space pass a test.
use Rattle.std.proofs.Common.{◌≡◌, ◌≢◌, ℕ, zero, suc, ◌+◌, ◌<◌, ◌≤◌, Bool, false, cond, eqb, ◌&&◌, inl, inr, refl, sym, ap, ◌∙◌, arith}
use Rattle.std.specs.List.{range_with_len, count_by}
use Rattle.std.proofs.lemmas.Bool.{cases_eq, eq-eqb, ne_eqb}
use Rattle.pager_model.specs.Bounds.{space_pages}
use Rattle.pager_model.specs.Tiles.{count_pages}
use Rattle.pager_model.proofs.CountLemmas as general
use Rattle.pager_model.proofs.CountLemmas.{weight, count-agree}

-- how many of so many numbers from one on pass
pub count : (ℕ → Bool) → ℕ → ℕ → ℕ
count f from many = count_by f (range_with_len from many)

pub count-is : (f : ℕ → Bool) (from many : ℕ) → count_by f (range_with_len from many) ≡ count f from many
unfolding count
count-is f from many = refl

pub count-zero : (f : ℕ → Bool) (from : ℕ) → count f from 0 ≡ 0
unfolding count
count-zero f from = refl

pub count-suc : (f : ℕ → Bool) (from many : ℕ) → count f from (suc many) ≡ weight (f from) + count f (from + 1) many
unfolding count
count-suc f from many = general.count-suc f from many

-- the pages of a space
pub count_pages-is : (f : ℕ → Bool) (many : ℕ) → many ≡ space_pages → count_pages f ≡ count f 0 many
unfolding count_pages count
count_pages-is f many e = ap (λ n. count_by f (range_with_len 0 n)) (sym e)

pub count-same : (f g : ℕ → Bool) (from many : ℕ) → ((n : ℕ) → from ≤ n → n < from + many → f n ≡ g n)
    → count f from many ≡ count g from many
unfolding count
count-same f g from many h = count-agree f g from many h

pub count-none : (f : ℕ → Bool) (from many : ℕ) → ((n : ℕ) → from ≤ n → n < from + many → f n ≡ false) → count f from many ≡ 0
unfolding count
count-none f from many h = general.count-none f from many h

-- one more
pub count-more : (f : ℕ → Bool) (from many n : ℕ) → from + many ≡ n → count f from (many + 1) ≡ count f from many + weight (f n)
count-more f from zero n e =
    omega (
      arith,
      ap (count f from) {x = 0 + 1} {y = suc 0} (omega arith),
      count-suc f from 0,
      count-zero f (from + 1),
      count-zero f from,
      ap (λ x. weight (f x)) {x = from} {y = n} (omega arith),
    )
count-more f from (suc many) n e =
    omega (
      arith,
      ap (count f from) {x = suc many + 1} {y = suc (many + 1)} (omega arith),
      count-suc f from (many + 1),
      count-more f (from + 1) many n (omega arith),
      count-suc f from many,
    )

pub count-apart : (f : ℕ → Bool) (from first rest next : ℕ) → from + first ≡ next
    → count f from (first + rest) ≡ count f from first + count f next rest
unfolding count
count-apart f from first rest next e = general.count-apart f from first rest next e

pub count-most : (f : ℕ → Bool) (from many : ℕ) → count f from many ≤ many
unfolding count
count-most f from many = general.count-most f from many

-- one number may pass
count-at : (a : ℕ) (flag : Bool) (from many : ℕ) → from ≤ a → a < from + many → count (λ q. eqb q a && flag) from many ≡ weight flag
count-at a flag from zero low high = absurd (omega arith)
count-at a flag from (suc many) low high = elim (cases_eq from a) [
  | inl here ↦
      let first : (eqb from a && flag) ≡ flag = ap (λ b. b && flag) (eq-eqb from a here) in
      omega (
        arith,
        count-suc (λ q. eqb q a && flag) from many,
        ap weight first,
        count-none (λ q. eqb q a && flag) (from + 1) many (λ n above below. other n (omega arith)),
      )
  | inr apart ↦ omega (
    arith,
    count-suc (λ q. eqb q a && flag) from many,
    ap weight (other from apart),
    count-at a flag (from + 1) many (omega arith) (omega arith),
  )
]
  where
    other : (n : ℕ) → n ≢ a → (eqb n a && flag) ≡ false
    other n apart = ap (λ b. b && flag) (ne_eqb n a apart)

pub count_pages_at : (a : ℕ) (flag : Bool) → a < space_pages → count_pages (λ q. eqb q a && flag) ≡ cond flag 1 0
count_pages_at a flag within = at space_pages refl
  where
    at : (many : ℕ) → many ≡ space_pages → count_pages (λ q. eqb q a && flag) ≡ cond flag 1 0
    at many e = count_pages-is (λ q. eqb q a && flag) many e ∙ count-at a flag 0 many (omega arith) (omega arith)

pub count_pages_none : count_pages (λ q. false) ≡ 0
count_pages_none = at space_pages refl
  where
    at : (many : ℕ) → many ≡ space_pages → count_pages (λ q. false) ≡ 0
    at many e = count_pages-is (λ q. false) many e ∙ count-none (λ q. false) 0 many (λ n low high. refl)

pub count_pages_most : (f : ℕ → Bool) → count_pages f ≤ space_pages
count_pages_most f = at space_pages refl
  where
    at : (many : ℕ) → many ≡ space_pages → count_pages f ≤ space_pages
    at many e = omega (arith, count_pages-is f many e, count-most f 0 many)

pub count-sum : (f g h : ℕ → Bool) (from many : ℕ) → ((n : ℕ) → from ≤ n → n < from + many → weight (f n) ≡ weight (g n) + weight (h n))
    → count f from many ≡ count g from many + count h from many
count-sum f g h from zero each = omega (arith, count-zero f from, count-zero g from, count-zero h from)
count-sum f g h from (suc many) each =
    omega (
      arith,
      count-suc f from many,
      count-suc g from many,
      count-suc h from many,
      each from (omega arith) (omega arith),
      count-sum f g h (from + 1) many (λ n low high. each n (omega arith) (omega arith)),
    )
