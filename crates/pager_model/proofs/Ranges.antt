-- The numbers of a range.
use Rattle.std.proofs.Common.{◌≡◌, ◌<◌, ◌≤◌, ℕ, zero, suc, ◌+◌, Bool, true, false, [], ◌∷◌, ◌++◌, find, Some, ◌↔◌, inl, inr, refl, ap, sym, ◌∙◌, map-id, arith}
use Rattle.std.specs.List.{range_with_len, list_all}
use Rattle.std.proofs.lemmas.Bool.{cases_eq, cases_Bool, cond-true, cond-false, and_parts, and_from, leb-true, ltb-true, le-leb, lt-ltb}
use Rattle.std.proofs.lemmas.List.FromFn.{map-range_with_len_more}
use Rattle.std.proofs.lemmas.Option.{none-some, same_Some}
use Rattle.pager_model.specs.Regions.{in_range}

-- a page of a range is one from its first to before its end
pub in_bounds : (first len p : ℕ) → in_range first len p ≡ true → (first ≤ p) × (p < first + len)
in_bounds first len p h = let parts = and_parts _ _ h in (leb-true _ _ parts.0, ltb-true _ _ parts.1)

pub bounds_in : (first len p : ℕ) → first ≤ p → p < first + len → in_range first len p ≡ true
bounds_in first len p low high = and_from _ _ (le-leb first p low) (lt-ltb p (first + len) high)

-- one number more from 0 on
pub range_with_len-more : (n : ℕ) → range_with_len 0 (n + 1) ≡ range_with_len 0 n ++ n ∷ []
range_with_len-more n =
    sym (map-id (range_with_len 0 (n + 1))) ∙ map-range_with_len_more (λ (x : ℕ). x) 0 n n (omega arith)
    ∙ ap (λ l. l ++ n ∷ []) (map-id (range_with_len 0 n))

-- all numbers pass exactly where each does
pub list_all-range : (p : ℕ → Bool) (a n : ℕ) → (list_all p (range_with_len a n) ≡ true) ↔ ((i : ℕ) → a ≤ i → i < a + n → p i ≡ true)
list_all-range p a zero = (λ all i low high. absurd (omega arith), λ each. refl)
list_all-range p a (suc n) = (
  λ all i low high. elim (cases_eq a i) [
    | inl here ↦ ap p (sym here) ∙ (and_parts _ _ all).0
    | inr later ↦ (list_all-range p (a + 1) n).0 (and_parts _ _ all).1 i (omega arith) (omega arith)
  ],
  λ each. and_from _ _ (each a (omega arith) (omega arith)) ((list_all-range p (a + 1) n).1
      (λ i low high. each i (omega arith) (omega arith))),
)

-- what the first number that passes is
pub find_passes : (p : ℕ → Bool) (a n f : ℕ) → find p (range_with_len a n) ≡ Some f → p f ≡ true
find_passes p a zero f e = absurd (none-some _ e)
find_passes p a (suc n) f e =
    elim (cases_Bool (p a)) [
      | inl passes ↦ rw (← same_Some _ _ (rw passes at e)) passes
      | inr fails ↦ find_passes p (a + 1) n f (rw fails at e)
    ]

-- the first number of a range that passes, where none below it does
pub find_first : (p : ℕ → Bool) (a n i : ℕ) → ((k : ℕ) → a ≤ k → k < i → p k ≡ false) → a ≤ i → i < a + n → p i ≡ true
    → find p (range_with_len a n) ≡ Some i
find_first p a zero i none low high is = absurd (omega arith)
find_first p a (suc n) i none low high is = elim (cases_eq a i) [
  | inl here ↦ cond-true _ _ _ (ap p here ∙ is) ∙ ap Some here
  | inr other ↦
      cond-false _ _ _ (none a (omega arith) (omega arith))
      ∙ find_first p (a + 1) n i (λ k from below. none k (omega arith) below) (omega arith) (omega arith) is
]
