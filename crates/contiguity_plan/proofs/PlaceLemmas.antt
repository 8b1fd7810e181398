-- Maps from pages to frames, one for each space.
use Rattle.std.proofs.Common.{◌≡◌, ◌≢◌, ◌<◌, ℕ, zero, suc, cond, eqb, ◌&&◌, List, [], ◌∷◌, ◌++◌, length, set, get_or, Option, None, Some, inl, inr, refl, sym, ap, ◌∙◌, arith}
use Rattle.std.specs.BTreeMap.{BTreeMap, get, is_at}
use Rattle.std.specs.Cmp.{unsigned_tied}
use Rattle.std.specs.Option.{IfSome, IfNone}
use Rattle.std.specs.Ordering.{nat_cmp}
use Rattle.std.proofs.lemmas.Bool.{cases_eq, eq-eqb, ne_eqb}
use Rattle.std.proofs.lemmas.Bool.Decides.{nat_tests}
use Rattle.contiguity_plan.specs.Places.{place_in}

-- what is a space's is its map's
pub place_in-at : (ms : List (BTreeMap ℕ ℕ)) (s p : ℕ) (d : BTreeMap ℕ ℕ) → s < length ms → place_in ms s p ≡ get nat_cmp (get_or ms s d) p
place_in-at [] s p d known = absurd (omega (arith, known))
place_in-at (m ∷ ms) zero p d known = refl
place_in-at (m ∷ ms) (suc s) p d known = place_in-at ms s p d (omega (arith, known))

-- and so of the map that stands there
pub place_in-is : (ms : List (BTreeMap ℕ ℕ)) (s p : ℕ) (m : BTreeMap ℕ ℕ) → s < length ms → m ≡ get_or ms s m
    → place_in ms s p ≡ get nat_cmp m p
place_in-is ms s p m known is = place_in-at ms s p m known ∙ ap (λ n. get nat_cmp n p) (sym is)

place_in-set_same : (ms : List (BTreeMap ℕ ℕ)) (s p : ℕ) (m : BTreeMap ℕ ℕ) → s < length ms → place_in (set ms s m) s p ≡ get nat_cmp m p
place_in-set_same [] s p m known = absurd (omega (arith, known))
place_in-set_same (x ∷ ms) zero p m known = refl
place_in-set_same (x ∷ ms) (suc s) p m known = place_in-set_same ms s p m (omega (arith, known))

place_in-set_other : (ms : List (BTreeMap ℕ ℕ)) (space s p : ℕ) (m : BTreeMap ℕ ℕ) → s ≢ space
    → place_in (set ms space m) s p ≡ place_in ms s p
place_in-set_other [] space s p m other = refl
place_in-set_other (x ∷ ms) zero zero p m other = absurd (other refl)
place_in-set_other (x ∷ ms) zero (suc s) p m other = refl
place_in-set_other (x ∷ ms) (suc space) zero p m other = refl
place_in-set_other (x ∷ ms) (suc space) (suc s) p m other = place_in-set_other ms space s p m (λ same. other (ap suc same))

-- a map that was empty is one more space's
pub place_in-push : (ms : List (BTreeMap ℕ ℕ)) (m : BTreeMap ℕ ℕ) (s p : ℕ) → ((t q : ℕ) → place_in ms t q ≡ None) → get nat_cmp m p ≡ None
    → place_in (ms ++ m ∷ []) s p ≡ None
place_in-push [] m zero p none empty = empty
place_in-push [] m (suc s) p none empty = refl
place_in-push (x ∷ ms) m zero p none empty = none 0 p
place_in-push (x ∷ ms) m (suc s) p none empty = place_in-push ms m s p (λ t q. none (suc t) q) empty

-- one page of one space has another frame, or none
pub place_in-changed : (ms : List (BTreeMap ℕ ℕ)) (space page : ℕ) (m was d : BTreeMap ℕ ℕ) (o : Option ℕ) → space < length ms
    → get_or ms space d ≡ was
    → ((q : ℕ) → get nat_cmp m q ≡ cond (is_at (nat_cmp page) q) o (get nat_cmp was q))
    → (s p : ℕ) → place_in (set ms space m) s p ≡ cond (eqb space s && eqb p page) o (place_in ms s p)
place_in-changed ms space page m was d o known is updates s p = elim (cases_eq s space) [
  | inl same ↦
      let here : place_in ms space p ≡ get nat_cmp was p = place_in-at ms space p d known ∙ ap (λ n. get nat_cmp n p) is in
      let tied : is_at (nat_cmp page) p ≡ eqb p page = unsigned_tied page p ∙ grind (arith, nat_tests) in
      let after : place_in (set ms space m) space p ≡ cond (eqb p page) o (place_in ms space p) =
      place_in-set_same ms space p m known ∙ updates p ∙ ap (λ b. cond b o (get nat_cmp was p)) tied
      ∙ ap (cond (eqb p page) o) (sym here) in
      ap (λ t. place_in (set ms space m) t p) same ∙ after
      ∙ ap (λ t. cond (eqb p page) o (place_in ms t p)) (sym same)
      ∙ sym (ap (λ b. cond (b && eqb p page) o (place_in ms s p)) (eq-eqb space s (sym same)))
  | inr other ↦
      place_in-set_other ms space s p m other
      ∙ sym (ap (λ b. cond (b && eqb p page) o (place_in ms s p)) (ne_eqb space s (λ same. other (sym same))))
]

-- what follows from what is said of an option's value, or where there is none
pub IfSome-mapped : (o : Option ℕ) (P Q : ℕ → Type 0) → ((n : ℕ) → P n → Q n) → IfSome o P → IfSome o Q
IfSome-mapped None P Q goes is = tt
IfSome-mapped (Some n) P Q goes is = goes n is

pub IfNone-mapped : (o : Option ℕ) (P Q : Type 0) → (P → Q) → IfNone o P → IfNone o Q
IfNone-mapped None P Q goes is = goes is
IfNone-mapped (Some n) P Q goes is = tt
