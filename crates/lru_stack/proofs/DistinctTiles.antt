-- Rows in which no tile stands at two places, and stacks of such rows.
use Rattle.std.proofs.Common.{◌≡◌, ℕ, zero, suc, ◌+◌, ◌<◌, ◌≤◌, Bool, true, cond, List, [], ◌∷◌, ◌++◌, length, get_or, set, take, drop, map, sum, nat_lt, replicate, Some, None, Option, inl, inr, refl, sym, ap, ◌∙◌, subst, arith}
use Rattle.std.specs.Option.{IfSome}
use Rattle.std.specs.List.{All, count_by, position, position_or_len}
use Rattle.std.proofs.lemmas.Bool.{cases_Bool, cases_lt, lt-ltb, le-ltb, cond-true, cond-false}
use Rattle.std.proofs.lemmas.List.{set_past, set_split, drop_more}
use Rattle.std.proofs.lemmas.List.Elements.{All-cons, All-head, All-nil, All-tail}
use Rattle.std.proofs.lemmas.List.Sums.{sum_by-cons, sum_by-set}
use Rattle.pager_model.specs.declared.tile.Tile.{Tile}
use Rattle.pager_model.specs.Tiles.{same_tile}
use Rattle.pager_model.proofs.TileParts.{same_tile-true}
use Rattle.lru_stack.specs.Stacks.{AreDistinct, IsKept, Kept, Passes, hole_at, is_at, kept_at, left_by, moved_down, position_of, shifted}

abbrev weight : Bool → ℕ
weight b = cond b 1 0

count-cons : (t : Tile) (place : Option Tile) (places : List (Option Tile))
    → count_by (is_at t) (place ∷ places) ≡ weight (is_at t place) + count_by (is_at t) places
count-cons t place places = sum_by-cons (λ p. weight (is_at t p)) place places

-- The row without a tile.

-- where the tile stands nowhere, nothing goes
none-left : (t : Tile) (places : List (Option Tile)) → count_by (is_at t) places ≤ 0 → map (left_by t) places ≡ places
none-left t [] none = refl
none-left t (place ∷ places) none = elim (cases_Bool (is_at t place)) [
  | inl at ↦ absurd (omega (arith, none, count-cons t place places, ap weight at))
  | inr other ↦ rw other (ap (λ rest. place ∷ rest) (none-left t places (omega (arith, none, count-cons t place places))))
]

-- its only place becomes a hole
only-left : (t : Tile) (places : List (Option Tile)) → count_by (is_at t) places ≤ 1
    → set places (position_or_len (is_at t) places) None ≡ map (left_by t) places
only-left t [] once = refl
only-left t (place ∷ places) once = elim (cases_Bool (is_at t place)) [
  | inl at ↦ rw at (ap (λ rest. None ∷ rest) (sym (none-left t places (omega (arith, once, count-cons t place places, ap weight at)))))
  | inr other ↦
      let n = position_or_len (is_at t) places in
      let next : 1 + n ≡ suc n = omega arith in
      rw other (ap (λ m. set (place ∷ places) m None) next ∙ ap (λ rest. place ∷ rest)
      (only-left t places (omega (arith, once, count-cons t place places))))
]

pub hole-left : (t : Tile) (places : List (Option Tile)) → AreDistinct places
    → hole_at (position (is_at t) places) places ≡ map (left_by t) places
hole-left t places distinct =
    let n = position_or_len (is_at t) places in
    elim (cases_lt n (length places)) [
      | inl below ↦ ap (λ o. hole_at o places) (cond-true (nat_lt n (length places)) (Some n) None (lt-ltb n (length places) below))
          ∙ only-left t places (distinct t)
      | inr past ↦
          ap (λ o. hole_at o places) (cond-false (nat_lt n (length places)) (Some n) None (le-ltb n (length places) past))
          ∙ sym (set_past places n None past)
          ∙ only-left t places (distinct t)
    ]

-- so where the tile was found as the one before
pub hole-found : (t : Tile) (before : Option Tile) (places : List (Option Tile)) → AreDistinct places → is_at t before ≡ true
    → hole_at (position_of before places) places ≡ map (left_by t) places
hole-found t (Some u) places distinct same =
    subst (λ v. hole_at (position (is_at v) places) places ≡ map (left_by t) places) (same_tile-true t u same) (hole-left t places distinct)
hole-found t None places distinct same = cc

-- Moving down is taking out and shifting.
pub moved_down-shifted : (t : Tile) (carried : Option Tile) (places : List (Option Tile))
    → moved_down t carried places ≡ shifted carried (map (left_by t) places)
moved_down-shifted t None [] = refl
moved_down-shifted t (Some c) [] = refl
moved_down-shifted t None (place ∷ places) = ap (λ rest. left_by t place ∷ rest) (moved_down-shifted t None places)
moved_down-shifted t (Some c) (place ∷ places) = ap (λ rest. Some c ∷ rest) (moved_down-shifted t (left_by t place) places)

-- a place loses the tile and what fails the test in either order
left-kept : (t : Tile) (test : Tile → Bool) (place : Option Tile) → left_by t (kept_at test place) ≡ kept_at test (left_by t place)
left-kept t test None = refl
left-kept t test (Some u) = elim (cases_Bool (same_tile t u)) [
  | inl same ↦ elim (cases_Bool (test u)) [ inl passes ↦ rw same (rw passes (rw same refl)) | inr fails ↦ rw same (rw fails refl) ]
  | inr other ↦ elim (cases_Bool (test u)) [ inl passes ↦ rw other (rw passes (rw other refl)) | inr fails ↦ rw other (rw fails refl) ]
]

pub map_left-kept : (t : Tile) (test : Tile → Bool) (places : List (Option Tile))
    → map (left_by t) (map (kept_at test) places) ≡ map (kept_at test) (map (left_by t) places)
map_left-kept t test [] = refl
map_left-kept t test (place ∷ places) = ap (λ p. p ∷ map (left_by t) (map (kept_at test) places)) (left-kept t test place)
    ∙ ap (λ rest. kept_at test (left_by t place) ∷ rest) (map_left-kept t test places)

-- the row after a use is what is left of it without the tile, shifted
pub moved_down-kept : (t : Tile) (test : Tile → Bool) (places : List (Option Tile))
    → moved_down t (Some t) (map (kept_at test) places) ≡ shifted (Some t) (map (kept_at test) (map (left_by t) places))
moved_down-kept t test places = moved_down-shifted t (Some t) (map (kept_at test) places)
    ∙ ap (shifted (Some t)) (map_left-kept t test places)

-- a hole ends the shift
pub shifted-stop : (places : List (Option Tile)) (i : ℕ) (d : Option Tile) (c : Tile) (new : Option Tile) → i < length places
    → get_or places i d ≡ None → new ≡ Some c
    → set places i new ≡ take i places ++ shifted (Some c) (drop i places)
shifted-stop places i d c new within hole is =
    let here : drop i places ≡ None ∷ drop (i + 1) places = drop_more places i d within ∙ ap (λ place. place ∷ drop (i + 1) places) hole in
    let next : suc i ≡ i + 1 = omega arith in
    set_split places i new within ∙ ap (λ place. take i places ++ place ∷ drop (suc i) places) is
    ∙ ap (λ n. take i places ++ Some c ∷ drop n places) next
    ∙ ap (λ rest. take i places ++ shifted (Some c) rest) (sym here)

pub All-left : (test : Tile → Bool) (t : Tile) (places : List (Option Tile)) → All (Passes test) places
    → All (Passes test) (map (left_by t) places)
All-left test t [] all = All-nil (Passes test)
All-left test t (place ∷ places) all =
    All-cons (Passes test) (left_by t place) (map (left_by t) places) (left-passes (All-head (Passes test) place places all))
    (All-left test t places (All-tail (Passes test) place places all))
  where
    left-passes : Passes test place → Passes test (left_by t place)
    left-passes passes = elim (cases_Bool (is_at t place)) [ inl at ↦ rw at tt | inr other ↦ rw other passes ]

-- How often a tile stands.

-- a place that has no other tile than before
weight-less : (t : Tile) (new old : Option Tile) → IfSome new (λ u. old ≡ Some u) → weight (is_at t new) ≤ weight (is_at t old)
weight-less t None old was = omega arith
weight-less t (Some u) old was = rw was (omega arith)

pub count-set : (t : Tile) (places : List (Option Tile)) (i : ℕ) (d new : Option Tile) → i < length places
    → IfSome new (λ u. get_or places i d ≡ Some u)
    → count_by (is_at t) (set places i new) ≤ count_by (is_at t) places
count-set t places i d new within was =
    omega (arith, sum_by-set (λ p. weight (is_at t p)) places i new d within, weight-less t new (get_or places i d) was)

-- a tile that was taken out stands nowhere, and no other one at more places
count-out : (t : Tile) (places : List (Option Tile)) → count_by (is_at t) (map (left_by t) places) ≡ 0
count-out t [] = refl
count-out t (place ∷ places) = elim (cases_Bool (is_at t place)) [
  | inl at ↦ rw at (count-out t places)
  | inr other ↦ rw other (rw other (count-out t places))
]

weight-left : (t u : Tile) (place : Option Tile) → weight (is_at u (left_by t place)) ≤ weight (is_at u place)
weight-left t u place = elim (cases_Bool (is_at t place)) [ inl at ↦ rw at (omega arith) | inr other ↦ rw other (omega arith) ]

count-left : (t u : Tile) (places : List (Option Tile)) → count_by (is_at u) (map (left_by t) places) ≤ count_by (is_at u) places
count-left t u [] = omega arith
count-left t u (place ∷ places) =
    omega (
      arith,
      weight-left t u place,
      count-left t u places,
      count-cons u place places,
      count-cons u (left_by t place) (map (left_by t) places),
    )

-- what is carried stands once more
count-shifted : (u : Tile) (carried : Option Tile) (places : List (Option Tile))
    → count_by (is_at u) (shifted carried places) ≤ weight (is_at u carried) + count_by (is_at u) places
count-shifted u None places = omega arith
count-shifted u (Some c) [] = omega arith
count-shifted u (Some c) (place ∷ places) =
    omega (arith, count-shifted u place places, count-cons u place places, count-cons u (Some c) (shifted place places))

-- so no tile stands at two places after a use, however many others went
pub distinct-shifted : (t : Tile) (old places : List (Option Tile)) → AreDistinct old
    → ((u : Tile) → count_by (is_at u) places ≤ count_by (is_at u) (map (left_by t) old))
    → AreDistinct (shifted (Some t) places)
distinct-shifted t old places distinct fewer u = elim (cases_Bool (same_tile u t)) [
  | inl same ↦
      omega (
        arith,
        count-shifted u (Some t) places,
        ap weight same,
        fewer u,
        subst (λ v. count_by (is_at v) (map (left_by t) old) ≡ 0) (sym (same_tile-true u t same)) (count-out t old),
      )
  | inr other ↦ omega (arith, count-shifted u (Some t) places, ap weight other, fewer u, count-left t u old, distinct u)
]

pub distinct-fewer : (old places : List (Option Tile)) → AreDistinct old → ((u : Tile) → count_by (is_at u) places ≤ count_by (is_at u) old)
    → AreDistinct places
distinct-fewer old places distinct fewer u = omega (arith, fewer u, distinct u)

pub distinct-holes : (n : ℕ) → AreDistinct (replicate n None)
distinct-holes zero u = omega arith
distinct-holes (suc n) u = omega (arith, distinct-holes n u)

-- A stack with one use more, whose row and counts are as long as before.
pub IsKept-used : (old new : Kept) (places : List (Option Tile)) (found : List ℕ) → IsKept old → new.places ≡ places → new.found ≡ found
    → new.uses ≡ old.uses + 1
    → length places ≡ length old.places → length found ≡ length old.found → sum found ≤ sum old.found + 1 → AreDistinct places
    → IsKept new
IsKept-used old new places found kept row counts more as_long as_many one distinct = record {
  long = omega (arith, ap length row, ap length counts, as_long, as_many, kept.long);
  within = omega (arith, ap sum counts, one, more, kept.within);
  distinct = subst AreDistinct (sym row) distinct;
}
