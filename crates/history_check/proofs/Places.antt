-- What holds of each place of a list, with one place written.
use Rattle.std.proofs.Common.{◌≢◌, ℕ, ◌<◌, List, length, get_or, set, sym, subst, inl, inr, arith}
use Rattle.std.proofs.lemmas.Bool.{cases_eq}
use Rattle.std.proofs.lemmas.List.{get_or-set_same, get_or-set_other, length-set}

pub each-set : {A : Type 0} (P : ℕ → A → Type 0) (xs : List A) (i : ℕ) (x : A) → i < length xs → P i x
    → ((j : ℕ) (d : A) → j < length xs → j ≢ i → P j (get_or xs j d))
    → (j : ℕ) (d : A) → j < length (set xs i x) → P j (get_or (set xs i x) j d)
each-set P xs i x within here others j d below = elim (cases_eq j i) [
  | inl same ↦ subst (λ n. P n (get_or (set xs i x) n d)) (sym same) (subst (P i) (sym (get_or-set_same xs i x d within)) here)
  | inr other ↦ subst (P j) (sym (get_or-set_other xs i j x d other)) (others j d (omega (arith, below, length-set xs i x)) other)
]
