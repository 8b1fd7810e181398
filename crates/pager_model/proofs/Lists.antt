-- Lists whose elements are all alike or all pass a test, and lists of places that may be empty.
use Rattle.std.proofs.Common.{◌≡◌, ◌<◌, ◌≤◌, ◌-◌, ◌&&◌, ◌⊎◌, ℕ, arith, nat_le, nat_lt, if◌then◌else◌, ◌++◌, take, drop, zero, suc, Option, None, Some, List, length, get_or, replicate, inl, inr, refl, sym, ◌∙◌, ◌≢◌, set, ap, Bool, true, [], ◌∷◌, filter, map}
use Rattle.std.proofs.lemmas.Bool.{cases_lt, cases_eq, and_parts, cond-true}
use Rattle.std.proofs.lemmas.Bool.Decides.{nat_tests}
use Rattle.std.proofs.lemmas.List.{get_or_append_left, get_or-append_right, get_or-take, get_or-drop, get_or-replicate, length-replicate, length-take, get_or_past, get_or-set_same, get_or-set_other, set_past}
use Rattle.std.proofs.lemmas.Option.{none-some}
use Rattle.std.specs.List.{list_all}

-- where all are alike, each is, and so is what is past them
pub get_or-alike : {A : Type 0} (n i : ℕ) (a : A) → get_or (replicate n a) i a ≡ a
get_or-alike zero i a = refl
get_or-alike (suc n) zero a = refl
get_or-alike (suc n) (suc i) a = get_or-alike n i a

-- a function of elements that are all alike
pub map-alike : {A B : Type 0} (f : A → B) (n : ℕ) (a : A) → map f (replicate n a) ≡ replicate n (f a)
map-alike f zero a = refl
map-alike f (suc n) a = ap (λ xs. f a ∷ xs) (map-alike f n a)

-- a place that holds something is in the list
pub get_or_within : {A : Type 0} (places : List (Option A)) (i : ℕ) (a : A) → get_or places i None ≡ Some a → i < length places
get_or_within places i a is = elim (cases_lt i (length places)) [
  | inl within ↦ within
  | inr past ↦ absurd (none-some a (sym (get_or_past places i None past) ∙ is))
]

-- where the default was written it stands
pub get_or-set_default : {A : Type 0} (xs : List A) (i j : ℕ) (d : A) → j ≡ i → get_or (set xs i d) j d ≡ d
get_or-set_default xs i j d here = ap (λ k. get_or (set xs i d) k d) here ∙ elim (cases_lt i (length xs)) [
  | inl known ↦ get_or-set_same xs i d d known
  | inr past ↦ ap (λ ys. get_or ys i d) (set_past xs i d past) ∙ get_or_past xs i d past
]

-- another value that stands then stood before, and the default was written elsewhere
pub unset_before : {A : Type 0} (xs : List A) (i j : ℕ) (d x : A) → d ≢ x → get_or (set xs i d) j d ≡ x → (j ≢ i) × (get_or xs j d ≡ x)
unset_before xs i j d x apart is = elim (cases_eq j i) [
  | inl here ↦ absurd (apart (sym (get_or-set_default xs i j d here) ∙ is))
  | inr other ↦ (other, sym (get_or-set_other xs i j d d other) ∙ is)
]

-- a value that stands somewhere is the one that was written there, or stood there before
pub set_cases : {A : Type 0} (xs : List (Option A)) (i j : ℕ) (o : Option A) (x : A) → get_or (set xs i o) j None ≡ Some x
    → ((j ≡ i) × (o ≡ Some x)) ⊎ ((j ≢ i) × (get_or xs j None ≡ Some x))
set_cases xs i j o x is = elim (cases_eq j i) [
  | inl here ↦
      let at : get_or (set xs i o) i None ≡ Some x = ap (λ k. get_or (set xs i o) k None) (sym here) ∙ is in
      elim (cases_lt i (length xs)) [
        | inl known ↦ inl (here, sym (get_or-set_same xs i o None known) ∙ at)
        | inr past ↦ absurd (none-some x (sym (ap (λ ys. get_or ys i None) (set_past xs i o past) ∙ get_or_past xs i None past) ∙ at))
      ]
  | inr other ↦ inr (other, sym (get_or-set_other xs i j o None other) ∙ is)
]

-- where all pass the test, all are kept
pub filter-all : {A : Type 0} (test : A → Bool) (xs : List A) → list_all test xs ≡ true → filter test xs ≡ xs
filter-all test [] all = refl
filter-all test (x ∷ xs) all =
    let parts = and_parts (test x) (list_all test xs) all in
    cond-true (test x) (x ∷ filter test xs) (filter test xs) parts.0 ∙ ap (λ rest. x ∷ rest) (filter-all test xs parts.1)

-- a part of a list is filled: within it each place has the value, and elsewhere it is as before
pub filled_at : {X : Type 0} (xs : List X) (from end : ℕ) (v d : X) (i : ℕ) → from ≤ end → end ≤ length xs
    → get_or (take from xs ++ (replicate (end - from) v ++ drop (end - from) (drop from xs))) i d
    ≡ (if nat_le from i && nat_lt i end then v else get_or xs i d)
filled_at xs from end v d i order within =
    let part = replicate (end - from) v in
    let front : length (take from xs) ≡ from = omega (arith, length-take from xs) in
    let long : length part ≡ end - from = length-replicate (end - from) v in
    elim (cases_lt i from) [
      | inl below ↦ get_or_append_left (take from xs) _ d i (omega arith) ∙ get_or-take from xs i d below ∙ grind (arith, nat_tests)
      | inr on ↦ elim (cases_lt i end) [
        | inl inside ↦
            get_or-append_right (take from xs) _ from i d front on
            ∙ get_or_append_left part _ d (i - from) (omega arith)
            ∙ get_or-replicate (end - from) (i - from) v d (omega arith)
            ∙ grind (arith, nat_tests)
        | inr past ↦
            get_or-append_right (take from xs) _ from i d front on
            ∙ get_or-append_right part _ (end - from) (i - from) d long (omega arith)
            ∙ get_or-drop (end - from) (drop from xs) _ d
            ∙ get_or-drop from xs _ d
            ∙ ap (λ j. get_or xs j d) {y = i} (omega arith)
            ∙ grind (arith, nat_tests)
      ]
    ]
