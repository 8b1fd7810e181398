-- The largest size of some that is at most another one.
use Rattle.std.proofs.Common.{◌≡◌, ℕ, zero, suc, ◌≤◌, true, false, refl, sym, ap, inl, inr, ◌∙◌, arith}
use Rattle.std.proofs.lemmas.Bool.{cases_Bool, cases_eq, cond-true, cond-false, false≢true}
use Rattle.pager_model.specs.SizeSets.{SizeSet, has_size, size_within}

pub within_has : (z : SizeSet) (k : ℕ) → has_size z k ≡ true → size_within z k ≡ k
within_has z zero is = refl
within_has z (suc k) is = cond-true _ _ _ is

pub within_skips : (z : SizeSet) (k : ℕ) → has_size z (suc k) ≡ false → size_within z (suc k) ≡ size_within z k
within_skips z k not = cond-false _ _ _ not

pub within_at_most : (z : SizeSet) (k : ℕ) → size_within z k ≤ k
within_at_most z zero = omega arith
within_at_most z (suc k) = elim (cases_Bool (has_size z (suc k))) [
  | inl is ↦ omega (arith, within_has z (suc k) is)
  | inr not ↦ omega (arith, within_skips z k not, within_at_most z k)
]

-- it is one of them
pub has_within : (z : SizeSet) (k : ℕ) → has_size z (size_within z k) ≡ true
has_within z zero = refl
has_within z (suc k) = elim (cases_Bool (has_size z (suc k))) [
  | inl is ↦ ap (has_size z) (within_has z (suc k) is) ∙ is
  | inr not ↦ ap (has_size z) (within_skips z k not) ∙ has_within z k
]

-- each of them that is at most the other one is at most it
pub within_largest : (z : SizeSet) (k j : ℕ) → has_size z j ≡ true → j ≤ k → j ≤ size_within z k
within_largest z zero j has low = omega (arith, low)
within_largest z (suc k) j has low = elim (cases_Bool (has_size z (suc k))) [
  | inl is ↦ omega (arith, within_has z (suc k) is, low)
  | inr not ↦ elim (cases_eq j (suc k)) [
    | inl same ↦ absurd (false≢true (sym not ∙ ap (has_size z) (sym same) ∙ has))
    | inr other ↦ let rest = within_largest z k j has (omega arith) in omega (arith, rest, within_skips z k not)
  ]
]
