-- Counting the numbers of a range that pass a test.
use Rattle.std.proofs.Common.{◌≡◌, ◌≢◌, ◌<◌, ◌≤◌, ℕ, zero, suc, zero-add, ◌+◌, ◌-◌, Bool, true, false, cond, refl, sym, ap, ◌∙◌, arith, inl, inr, count_by}
use Rattle.std.proofs.Math.Nat.{suc-add}
use Rattle.std.specs.List.{range_with_len}
use Rattle.std.proofs.lemmas.List.FromFn.{length-range_with_len}
use Rattle.std.proofs.lemmas.List.Sums.{sum_by-cons, count_by-le-length}
use Rattle.std.proofs.lemmas.Bool.{cases_eq}

-- what a number adds to a count
abbrev pub weight : Bool → ℕ
weight b = cond b 1 0

-- the first number, and those after it
pub count-suc : (p : ℕ → Bool) (a n : ℕ) → count_by p (range_with_len a (suc n)) ≡ weight (p a) + count_by p (range_with_len (a + 1) n)
count-suc p a n = sum_by-cons (λ x. cond (p x) 1 0) a (range_with_len (a + 1) n)

-- those before a number, and those from it on
pub count-apart : (p : ℕ → Bool) (a m n b : ℕ) → a + m ≡ b
    → count_by p (range_with_len a (m + n)) ≡ count_by p (range_with_len a m) + count_by p (range_with_len b n)
count-apart p a zero n b e =
    ap (λ k. count_by p (range_with_len a k)) (zero-add n) ∙ ap (λ k. count_by p (range_with_len k n)) {x = a} {y = b} (omega arith)
    ∙ sym (zero-add (count_by p (range_with_len b n)))
count-apart p a (suc m) n b e =
    ap (λ k. count_by p (range_with_len a k)) (suc-add m n)
    ∙ omega (arith, count-suc p a (m + n), count-suc p a m, count-apart p (a + 1) m n b (omega arith))

-- two tests that agree from a on count the same
pub count-agree : (p q : ℕ → Bool) (a n : ℕ) → ((g : ℕ) → a ≤ g → g < a + n → p g ≡ q g)
    → count_by p (range_with_len a n) ≡ count_by q (range_with_len a n)
count-agree p q a zero agree = refl
count-agree p q a (suc n) agree =
    omega (
      arith,
      ap weight (agree a (omega arith) (omega arith)),
      count-agree p q (a + 1) n
          (λ g low high. agree g (omega arith) (omega arith)),
      count-suc p a n,
      count-suc q a n,
    )

-- a test that one more number passes counts one more
pub count-one_more : (p q : ℕ → Bool) (f : ℕ) → p f ≡ false → q f ≡ true → ((g : ℕ) → g ≢ f → p g ≡ q g) → (a n : ℕ) → a ≤ f → f < a + n
    → count_by q (range_with_len a n) ≡ count_by p (range_with_len a n) + 1
count-one_more p q f fails passes agree a zero low high = absurd (omega arith)
count-one_more p q f fails passes agree a (suc n) low high =
    let by_p = count-suc p a n in
    let by_q = count-suc q a n in
    elim (cases_eq a f) [
      | inl here ↦
          let rest = count-agree p q (a + 1) n (λ g after _. agree g (λ same. absurd (omega arith))) in
          omega (arith, ap weight (ap p here ∙ fails), ap weight (ap q here ∙ passes), rest, by_p, by_q)
      | inr other ↦
          let rest = count-one_more p q f fails passes agree (a + 1) n (omega arith) (omega arith) in
          omega (arith, ap weight (agree a other), rest, by_p, by_q)
    ]

-- a test that no number of the range passes counts none
pub count-none : (p : ℕ → Bool) (a n : ℕ) → ((g : ℕ) → a ≤ g → g < a + n → p g ≡ false) → count_by p (range_with_len a n) ≡ 0
count-none p a zero none = refl
count-none p a (suc n) none =
    omega (
      arith,
      count-suc p a n,
      ap weight (none a (omega arith) (omega arith)),
      count-none p (a + 1) n (λ g low high. none g (omega arith) (omega arith)),
    )

-- one that all pass counts all
count-all : (p : ℕ → Bool) (a n : ℕ) → ((g : ℕ) → a ≤ g → g < a + n → p g ≡ true) → count_by p (range_with_len a n) ≡ n
count-all p a zero all = refl
count-all p a (suc n) all =
    omega (
      arith,
      count-suc p a n,
      ap weight (all a (omega arith) (omega arith)),
      count-all p (a + 1) n (λ g low high. all g (omega arith) (omega arith)),
    )

-- and none counts more
pub count-most : (p : ℕ → Bool) (a n : ℕ) → count_by p (range_with_len a n) ≤ n
count-most p a n = omega (arith, count_by-le-length p (range_with_len a n), length-range_with_len a n)

-- a change of a block changes a count as it changes the block's
pub block_change : (f g : ℕ → Bool) (count first block : ℕ) → first + block ≤ count
    → ((n : ℕ) → (first ≤ n → n < first + block → ⊥) → g n ≡ f n)
    → count_by g (range_with_len 0 count) + count_by f (range_with_len first block) ≡ count_by f (range_with_len 0 count) + count_by g
    (range_with_len first block)
block_change f g count first block within outside =
    let rest = count - (first + block) in
    let parts : (p : ℕ → Bool) → count_by p (range_with_len 0 count) ≡ count_by p (range_with_len 0 first) +
    (count_by p (range_with_len first block) + count_by p (range_with_len (first + block) rest)) = λ p.
    ap (λ n. count_by p (range_with_len 0 n)) {x = count} {y = first + (block + rest)} (omega arith)
    ∙ omega (arith, count-apart p 0 first (block + rest) first (omega arith), count-apart p first block rest (first + block) refl) in
    omega (
      arith,
      parts f,
      parts g,
      count-agree g f 0 first (λ n _ high. outside n (λ low _. omega arith)),
      count-agree g f (first + block) rest (λ n low _. outside n (λ _ high. omega arith)),
    )

-- all numbers of a block pass where none did, and the others as before
pub count_block : (f g : ℕ → Bool) (count first block : ℕ) → first + block ≤ count
    → ((n : ℕ) → first ≤ n → n < first + block → (f n ≡ false) × (g n ≡ true)) → ((n : ℕ) → (first ≤ n → n < first + block → ⊥) → g n ≡ f n)
    → count_by g (range_with_len 0 count) ≡ count_by f (range_with_len 0 count) + block
count_block f g count first block within inside outside =
    omega (
      arith,
      block_change f g count first block within outside,
      count-all g first block (λ n low high. (inside n low high).1),
      count-none f first block (λ n low high. (inside n low high).0),
    )
