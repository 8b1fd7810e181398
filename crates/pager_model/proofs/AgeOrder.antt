-- The order of the members of a list by age.
use Rattle.std.proofs.Common.{◌≡◌, ℕ, true, false, List, ◌∷◌, ap, ◌∙◌, arith, cond, []}
use Rattle.std.specs.List.{All}
use Rattle.std.proofs.lemmas.Bool.Decides.{nat_tests}
use Rattle.std.proofs.lemmas.List.Elements.{All-cons, All-head, All-tail}
use Rattle.pager_model.specs.Ages.{Member, is_before, with_member}

-- of two members at most one is before the other
pub is_before-other : (a b : Member) → is_before a b ≡ true → is_before b a ≡ false
is_before-other a b before = grind (arith, nat_tests)

-- what is before a member is before those that this one is before
pub is_before-later : (a b c : Member) → is_before a b ≡ true → is_before b c ≡ true → is_before a c ≡ true
is_before-later a b c before after = grind (arith, nat_tests)

-- members of which neither is before the other are one
pub is_before-same : (a b : Member) → is_before a b ≡ false → is_before b a ≡ false → a ≡ b
is_before-same a b not_before not_after =
    let stamp : a.stamp ≡ b.stamp = grind (arith, nat_tests) in
    let frame : a.frame ≡ b.frame = grind (arith, nat_tests) in
    let member : ℕ → ℕ → Member = λ s f. record { stamp = s; frame = f } in
    ap (λ s. member s a.frame) stamp ∙ ap (λ f. member b.stamp f) frame

pub All-with_member : (P : Member → Type 0) (new : Member) (ms : List Member) → P new → All P ms → All P (with_member new ms)
All-with_member P new [] p ps = All-cons P new [] p ps
All-with_member P new (m ∷ ms) p ps =
    elim (is_before new m) as (λ b. All P (cond b (new ∷ (m ∷ ms)) (m ∷ with_member new ms))) [
      | true ↦ All-cons P new (m ∷ ms) p ps
      | false ↦ All-cons P m (with_member new ms) (All-head P m ms ps) (All-with_member P new ms p (All-tail P m ms ps))
    ]
