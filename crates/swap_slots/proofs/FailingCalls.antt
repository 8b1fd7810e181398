-- Whether the number of a call is one of those that fail.
use Rattle.std.proofs.Common.{◌≡◌, ℕ, ◌<◌, ◌≤◌, ◌==◌, true, false, List, length, get_or, sym, subst, ◌∙◌, arith, eq-eqb}
use Rattle.std.specs.List.{Contains}
use Rattle.std.proofs.lemmas.Bool.{eqb-true, false≢true}

pub fails_there : (failing xs : List ℕ) (n number : ℕ) → failing ≡ xs → n ≡ number
    → ((k : ℕ) × (k < length failing) × ((d : ℕ) → (get_or failing k d == n) ≡ true)) → Contains xs number
fails_there failing xs n number same is at =
    subst (λ ys. Contains ys number) same (subst (λ k. Contains failing k) is (at.0, at.1, eqb-true _ _ (at.2 n)))

pub fails_nowhere : (failing xs : List ℕ) (n number : ℕ) → failing ≡ xs → n ≡ number
    → ((k d : ℕ) → 0 ≤ k → k < length failing → (get_or failing k d == n) ≡ false) → Contains xs number → ⊥
fails_nowhere failing xs n number same is none has =
    let at : Contains failing n = subst (λ k. Contains failing k) (sym is) (subst (λ ys. Contains ys number) (sym same) has) in
    false≢true (sym (none at.0 n (omega arith) at.1) ∙ eq-eqb _ _ at.2)
