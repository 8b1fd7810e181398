-- Frames of an extent without a used place.
use Rattle.std.proofs.Common.{◌≡◌, ◌<◌, ◌≤◌, ℕ, zero, suc, ◌+◌, Bool, true, false, not, ap, sym, ◌∙◌, refl, arith, inl, inr}
use Rattle.std.proofs.lemmas.Bool.{and_parts, cases_eq, false≢true}
use Rattle.pager_model.specs.Records.{none_used}

not_used : (b : Bool) → not b ≡ true → b ≡ false
not_used true is = absurd (false≢true is)
not_used false is = refl

-- none of them is one
pub unused_in : (used : ℕ → Bool) (first n frame : ℕ) → none_used used first n ≡ true → first ≤ frame → frame < first + n
    → used frame ≡ false
unused_in used first zero frame none low high = absurd (omega (arith, low, high))
unused_in used first (suc n) frame none low high =
    let parts = and_parts _ _ none in
    elim (cases_eq frame first) [
      | inl here ↦ ap used here ∙ not_used (used first) parts.0
      | inr other ↦ unused_in used (first + 1) n frame parts.1 (omega (arith, low, other)) (omega (arith, high))
    ]
