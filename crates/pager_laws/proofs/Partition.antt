-- Where the state of the frames is sound, each frame is in one role.
use Rattle.std.proofs.Common.{◌≡◌, ℕ, zero, suc, ◌<◌, Bool, true, false, List, [], ◌∷◌, get_or, count_by, Option, Some, None, inl, inr, refl, sym, ap, ◌∙◌, arith}
use Rattle.std.proofs.lemmas.Bool.{false≢true, false_from_ne_true, eq-eqb, eqb-true}
use Rattle.std.proofs.lemmas.List.Sums.{sum_by-cons}
use Rattle.pager_model.specs.Options.{is_that}
use Rattle.pager_model.specs.Agreement.{IsPartition, has_frame, roles}
use Rattle.pager_model.specs.FrameStates.{FrameState, layout_of, held_by}
use Rattle.pager_model.specs.Layouts.{record_at, is_free}
use Rattle.pager_model.proofs.CountLemmas.{weight}
use Rattle.pager_laws.specs.Laid.{IsSound, IsIn}
use Rattle.pager_laws.proofs.StateSoundness.{is_used-layout_of}

-- where no element passes, none is counted
pub count-nowhere : {X : Type 0} (p : X → Bool) (xs : List X) (d : X) → ((i : ℕ) → p (get_or xs i d) ≡ true → ⊥) → count_by p xs ≡ 0
count-nowhere p [] d never = refl
count-nowhere p (x ∷ xs) d never =
    let head : weight (p x) ≡ 0 = ap weight (false_from_ne_true (p x) (never 0)) in
    let rest = count-nowhere p xs d (λ i. never (suc i)) in
    let both = sum_by-cons (λ y. weight (p y)) x xs in
    omega (arith, head, rest, both)

-- where the element of one index alone passes, one is counted
pub count-once : {X : Type 0} (p : X → Bool) (xs : List X) (d : X) (k : ℕ) → p d ≡ false → p (get_or xs k d) ≡ true
    → ((i : ℕ) → p (get_or xs i d) ≡ true → i ≡ k) → count_by p xs ≡ 1
count-once p [] d k past passes only = absurd (false≢true (sym past ∙ passes))
count-once p (x ∷ xs) d zero past passes only =
    let head : weight (p x) ≡ 1 = ap weight passes in
    let rest = count-nowhere p xs d (λ i is. let same = only (suc i) is in omega (arith, same)) in
    let both = sum_by-cons (λ y. weight (p y)) x xs in
    omega (arith, head, rest, both)
count-once p (x ∷ xs) d (suc k) past passes only =
    let head : weight (p x) ≡ 0 = ap weight (false_from_ne_true (p x) (λ is. let same = only 0 is in omega (arith, same))) in
    let rest = count-once p xs d k past passes (λ i is. let same = only (suc i) is in omega (arith, same)) in
    let both = sum_by-cons (λ y. weight (p y)) x xs in
    omega (arith, head, rest, both)

-- the frame that passes is the one held
pub is_that-same : (f : ℕ) (o : Option ℕ) → is_that f o ≡ true → o ≡ Some f
is_that-same f None is = absurd (false≢true is)
is_that-same f (Some g) is = ap Some (eqb-true g f is)

module _ (frames processors : ℕ) (st : FrameState) (sound : IsSound frames processors st) (f : ℕ) where
  -- a place of a reservation is one of no other
  one_place : (id : ℕ) → has_frame f (record_at (layout_of st) id) ≡ true → count_by (has_frame f) st.records ≡ 1
  one_place id has = count-once (has_frame f) st.records None id refl has (λ other also. sound.laid.apart f other id also has)

  -- a frame in the layout is held by nobody
  pub none_holds : IsIn (layout_of st) f → count_by (is_that f) st.held ≡ 0
  none_holds within = count-nowhere (is_that f) st.held None (λ c is. (sound.held_apart c f (is_that-same f (held_by st c) is)).1 within)

  -- a frame that is held is held by one processor
  pub one_holds : (c : ℕ) → held_by st c ≡ Some f → count_by (is_that f) st.held ≡ 1
  one_holds c holds =
      count-once (is_that f) st.held None c refl (ap (is_that f) holds ∙ eq-eqb f f refl)
      (λ other is. sound.held_once other c f (is_that-same f (held_by st other) is) holds)

  -- it is in one role
  one_role : f < frames → roles st f ≡ 1
  one_role known = elim (sound.accounted f known) [
    | inl within ↦ elim within [
      | inl free ↦
          let free_one : weight (is_free (layout_of st) f) ≡ 1 = ap weight free in
          let no_place = count-nowhere (has_frame f) st.records None (λ id has. sound.laid.not_free f id free has) in
          let not_held = none_holds (inl free) in
          omega (arith, free_one, no_place, not_held)
      | inr place ↦
          let not_free : weight (is_free (layout_of st) f) ≡ 0 = ap weight
          (false_from_ne_true (is_free (layout_of st) f) (λ free. sound.laid.not_free f place.0 free place.1)) in
          let places = one_place place.0 place.1 in
          let not_held = none_holds (inr place) in
          omega (arith, not_free, places, not_held)
    ]
    | inr held ↦
        let out = (sound.held_apart held.0 f held.1).1 in
        let not_free : weight (is_free (layout_of st) f) ≡ 0 = ap weight
        (false_from_ne_true (is_free (layout_of st) f) (λ free. out (inl free))) in
        let no_place = count-nowhere (has_frame f) st.records None (λ id has. out (inr (id, has))) in
        let holds = one_holds held.0 held.1 in
        omega (arith, not_free, no_place, holds)
  ]

-- each frame is exactly one of free, a place of one reservation, and held by one processor; and a used place is a place
pub IsPartition-sound : (frames processors : ℕ) (st : FrameState) → IsSound frames processors st → IsPartition frames st
IsPartition-sound frames processors st sound f known = (
  one_role frames processors st sound f known,
  λ some.
      let place = sound.laid.places f (is_used-layout_of st f ∙ some) in
      one_place frames processors st sound f place.0 place.1,
)
