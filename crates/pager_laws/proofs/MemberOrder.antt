-- Members go into a list in any order.
use Rattle.std.proofs.Common.{◌≡◌, true, false, cond, List, [], ◌∷◌, refl, sym, ap, ◌∙◌}
use Rattle.std.proofs.lemmas.Bool.{false≢true, cond-true, cond-false}
use Rattle.pager_model.specs.Ages.{Member, is_before, with_member}
use Rattle.pager_model.proofs.AgeOrder.{is_before-other, is_before-later, is_before-same}

-- two members before a list stand in their order, whichever goes in first
two_in_order : (a b : Member) (ms : List Member) → cond (is_before a b) (a ∷ (b ∷ ms)) (b ∷ (a ∷ ms))
    ≡ cond (is_before b a) (b ∷ (a ∷ ms)) (a ∷ (b ∷ ms))
two_in_order a b ms =
    elim (is_before a b) as (λ v. is_before a b ≡ v → cond v (a ∷ (b ∷ ms)) (b ∷ (a ∷ ms))
    ≡ cond (is_before b a) (b ∷ (a ∷ ms)) (a ∷ (b ∷ ms))) [
      | true ↦ λ before. sym (cond-false _ _ _ (is_before-other a b before))
      | false ↦ λ not_before. elim (is_before b a) as (λ v. is_before b a ≡ v → b ∷ (a ∷ ms) ≡ cond v (b ∷ (a ∷ ms)) (a ∷ (b ∷ ms))) [
        | true ↦ λ after. refl
        | false ↦ λ not_after. (let same = is_before-same a b not_before not_after in cc)
      ] refl
    ] refl

-- a member goes in behind one that it isn't before, and before one that it is before
pub with_member-here : (new m : Member) (ms : List Member) → is_before new m ≡ true → with_member new (m ∷ ms) ≡ new ∷ (m ∷ ms)
with_member-here new m ms before = cond-true _ _ _ before

pub with_member-behind : (new m : Member) (ms : List Member) → is_before new m ≡ false → with_member new (m ∷ ms) ≡ m ∷ with_member new ms
with_member-behind new m ms behind = cond-false _ _ _ behind

-- one member is before the head, and one isn't: both go in where they would alone
one_before : (a b m : Member) (ms : List Member) → is_before a m ≡ true → is_before b m ≡ false
    → with_member a (with_member b (m ∷ ms)) ≡ with_member b (with_member a (m ∷ ms))
one_before a b m ms before behind =
    let later : is_before b a ≡ false = elim (is_before b a) as (λ v. is_before b a ≡ v → v ≡ false) [
      | true ↦ λ is. absurd (false≢true (sym behind ∙ is_before-later b a m is before))
      | false ↦ λ no. refl
    ] refl in
    ap (with_member a) (with_member-behind b m ms behind)
    ∙ with_member-here a m (with_member b ms) before
    ∙ ap (λ rest. a ∷ rest) (sym (with_member-behind b m ms behind))
    ∙ sym (with_member-behind b a (m ∷ ms) later)
    ∙ ap (with_member b) (sym (with_member-here a m ms before))

-- it doesn't matter which of two members goes into a list first
pub with_member-swap : (a b : Member) (ms : List Member) → with_member a (with_member b ms) ≡ with_member b (with_member a ms)
with_member-swap a b [] = two_in_order a b []
with_member-swap a b (m ∷ ms) =
    elim (is_before a m) as (λ v. is_before a m ≡ v → with_member a (with_member b (m ∷ ms)) ≡ with_member b (with_member a (m ∷ ms))) [
      | true ↦ λ a_before. elim (is_before b m) as (λ v. is_before b m ≡ v
          → with_member a (with_member b (m ∷ ms)) ≡ with_member b (with_member a (m ∷ ms))) [
            | true ↦ λ b_before.
                ap (with_member a) (with_member-here b m ms b_before)
                ∙ ap (λ rest. cond (is_before a b) (a ∷ (b ∷ (m ∷ ms))) (b ∷ rest)) (with_member-here a m ms a_before)
                ∙ two_in_order a b (m ∷ ms)
                ∙ ap (λ rest. cond (is_before b a) (b ∷ (a ∷ (m ∷ ms))) (a ∷ rest)) (sym (with_member-here b m ms b_before))
                ∙ ap (with_member b) (sym (with_member-here a m ms a_before))
            | false ↦ λ b_behind. one_before a b m ms a_before b_behind
          ] refl
      | false ↦ λ a_behind. elim (is_before b m) as (λ v. is_before b m ≡ v
          → with_member a (with_member b (m ∷ ms)) ≡ with_member b (with_member a (m ∷ ms))) [
            | true ↦ λ b_before. sym (one_before b a m ms b_before a_behind)
            | false ↦ λ b_behind.
                ap (with_member a) (with_member-behind b m ms b_behind)
                ∙ with_member-behind a m (with_member b ms) a_behind
                ∙ ap (λ rest. m ∷ rest) (with_member-swap a b ms)
                ∙ sym (with_member-behind b m (with_member a ms) b_behind)
                ∙ ap (with_member b) (sym (with_member-behind a m ms a_behind))
          ] refl
    ] refl
