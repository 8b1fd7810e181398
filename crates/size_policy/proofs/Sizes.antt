-- Which size is preferred, from which sizes fit.
use Rattle.std.proofs.Common.{◌≡◌, ℕ, zero, suc, ◌-◌, ◌*◌, ◌/◌, ◌<◌, ◌≤◌, Bool, true, false, cond, inl, inr, sym, arith}
use Rattle.std.proofs.lemmas.Bool.{cases_eq, and_parts, and_from, leb-true, le-leb, not-true, not_from_false, cond_both}
use Rattle.pager_model.specs.declared.entry.Want.{Want}
use Rattle.pager_model.specs.PreferredSize.{fits, preferred_size}
use Rattle.size_policy.specs.Suits.{Suits}

-- the largest of 3, 2 and 1 that passes, or 0
abbrev largest_of : (ℕ → Bool) → ℕ
largest_of p = cond (p 3) 3 (cond (p 2) 2 (cond (p 1) 1 0))

largest_is : (p : ℕ → Bool) (k : ℕ) → k ≤ 3 → ((j : ℕ) → k < j → j ≤ 3 → p j ≡ false) → (0 < k → p k ≡ true) → largest_of p ≡ k
largest_is p zero h above here = rw (
  above 3 (omega arith) (omega arith),
  above 2 (omega arith) (omega arith),
  above 1 (omega arith) (omega arith),
)
largest_is p (suc zero) h above here = rw (above 3 (omega arith) (omega arith), above 2 (omega arith) (omega arith), here (omega arith))
largest_is p (suc (suc zero)) h above here = rw (above 3 (omega arith) (omega arith), here (omega arith))
largest_is p (suc (suc (suc zero))) h above here = rw (here (omega arith))
largest_is p (suc (suc (suc (suc k)))) h above here = absurd (omega arith)

-- a size that fits where no larger one does is the preferred one; size 0 need not fit
pub preferred_is : (test : ℕ → ℕ → Bool) (page : ℕ) (want : Want) (k : ℕ) → k ≤ 3
    → ((j : ℕ) → k < j → j ≤ 3 → fits test page want j ≡ false) → (0 < k → fits test page want k ≡ true) → k ≡ preferred_size test page want
preferred_is test page want k h above here = sym (largest_is (fits test page want) k h above here)

-- none from n on fits, nor the one below: none from that one on fits
pub none_from_one_below : (test : ℕ → ℕ → Bool) (page : ℕ) (want : Want) (n k : ℕ) → k ≡ n - 1
    → ((j : ℕ) → n ≤ j → j ≤ 3 → fits test page want j ≡ false) → fits test page want k ≡ false → (j : ℕ) → n - 1 ≤ j → j ≤ 3
    → fits test page want j ≡ false
none_from_one_below test page want n k e above here j low high =
    elim (cases_eq j k) [ inl same ↦ rw same here | inr other ↦ above j (omega arith) high ]

-- what a size that fits meets, and that a size that meets it fits
pub Suits-from_fits : (test : ℕ → ℕ → Bool) (page : ℕ) (want : Want) (k : ℕ) → fits test page want k ≡ true → Suits test page want k
Suits-from_fits test page want k e =
    let halves = and_parts _ _ e in
    let bounds = and_parts _ _ halves.0 in
    let others = and_parts _ _ halves.1 in
    ((leb-true _ _ bounds.0, leb-true _ _ bounds.1, leb-true _ _ others.0), not-true _ others.1)

fits_from_Suits : (test : ℕ → ℕ → Bool) (page : ℕ) (want : Want) (k : ℕ) → Suits test page want k → fits test page want k ≡ true
fits_from_Suits test page want k h =
    and_from _ _ (and_from _ _ (le-leb _ _ h.0.0) (le-leb _ _ h.0.1)) (and_from _ _ (le-leb _ _ h.0.2) (not_from_false _ h.1))

alone_suits : (test : ℕ → ℕ → Bool) (page : ℕ) (want : Want) → want.low ≤ page → page < want.high → 1 ≤ want.cap → test 0 page ≡ false
    → Suits test page want 0
alone_suits test page want low high cap alone =
    let same : page / 1 * 1 ≡ page = omega arith in
    ((omega arith, omega arith, cap), rw same alone)

largest_passes : (p : ℕ → Bool) (P : ℕ → Type 0) → ((k : ℕ) → p k ≡ true → P k) → P 0 → P (largest_of p)
largest_passes p P passes base =
    cond_both (p 3) 3 _ P (passes 3) (λ _. cond_both (p 2) 2 _ P (passes 2) (λ _. cond_both (p 1) 1 0 P (passes 1) (λ _. base)))

pub Suits-preferred : (test : ℕ → ℕ → Bool) (page : ℕ) (want : Want) → want.low ≤ page → page < want.high → 1 ≤ want.cap
    → test 0 page ≡ false → Suits test page want (preferred_size test page want)
Suits-preferred test page want low high cap alone =
    largest_passes (fits test page want) (Suits test page want) (Suits-from_fits test page want)
    (alone_suits test page want low high cap alone)

largest_above : (p : ℕ → Bool) (k : ℕ) → k ≤ 3 → p k ≡ true → k ≤ largest_of p
largest_above p zero h e = omega arith
largest_above p (suc zero) h e =
    cond_both (p 3) 3 _ (λ n. 1 ≤ n) (λ _. omega arith) (λ _. cond_both (p 2) 2 _ (λ n. 1 ≤ n) (λ _. omega arith) (λ _. rw e (omega arith)))
largest_above p (suc (suc zero)) h e = cond_both (p 3) 3 _ (λ n. 2 ≤ n) (λ _. omega arith) (λ _. rw e (omega arith))
largest_above p (suc (suc (suc zero))) h e = rw e (omega arith)
largest_above p (suc (suc (suc (suc k)))) h e = absurd (omega arith)

pub preferred_largest : (test : ℕ → ℕ → Bool) (page : ℕ) (want : Want) (k : ℕ) → k ≤ 3 → Suits test page want k
    → k ≤ preferred_size test page want
preferred_largest test page want k h suits = largest_above (fits test page want) k h (fits_from_Suits test page want k suits)
