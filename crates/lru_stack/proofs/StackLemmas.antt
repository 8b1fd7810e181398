-- The stack includes the image of every capacity, and keeps doing so.
use Rattle.std.proofs.Common.{◌≡◌, ℕ, zero, suc, ◌+◌, ◌<◌, ◌≤◌, Bool, true, false, not, List, [], ◌∷◌, ◌++◌, length, get_or, set, take, drop, append_assoc, map, filter, Some, None, Option, inl, inr, refl, sym, ap, ◌∙◌, take_all, arith}
use Rattle.std.specs.List.{All}
use Rattle.std.proofs.lemmas.List.Elements.{All-cons, All-head, All-map, All-nil, All-tail}
use Rattle.std.proofs.lemmas.List.Folds.{map_fixed}
use Rattle.std.proofs.lemmas.Bool.{cond-true, cond_both, cases_Bool}
use Rattle.std.proofs.lemmas.List.{length-take, length-drop, drop-drop, get_or-drop, take_more_set, drop-set-lt, drop_more}
use Rattle.std.proofs.lemmas.List.Sums.{length-filter, count_by-le-length}
use Rattle.pager_model.specs.declared.tile.Tile.{Tile}
use Rattle.pager_model.specs.Tiles.{same_tile}
use Rattle.lru_stack.specs.declared.stack.Use.{Use}
use Rattle.lru_stack.specs.Followers.{without}
use Rattle.lru_stack.specs.Stacks.{Kept, Passes, found_at, is_at, left_by, kept_after, kept_at, moved_down, position_of, tiles_in}

-- a row of places has at most so many tiles
pub length-tiles_in : (places : List (Option Tile)) → length (tiles_in places) ≤ length places
length-tiles_in [] = omega arith
length-tiles_in (None ∷ places) = omega (arith, length-tiles_in places)
length-tiles_in (Some t ∷ places) = omega (arith, length-tiles_in places)

tiles_in-within : (k : ℕ) (places : List (Option Tile)) (t : Tile) → length (without t (tiles_in (take k places))) ≤ k
tiles_in-within k places t =
    omega (
      arith,
      length-tiles_in (take k places),
      length-take k places,
      length-filter (λ u. not (same_tile t u)) (tiles_in (take k places)),
      count_by-le-length (λ u. not (same_tile t u)) (tiles_in (take k places)),
    )

-- where nothing is carried the tile goes from the places up to any
pub moved_down-none : (t : Tile) (places : List (Option Tile)) (k : ℕ)
    → tiles_in (take k (moved_down t None places)) ≡ without t (tiles_in (take k places))
moved_down-none t [] zero = refl
moved_down-none t [] (suc k) = refl
moved_down-none t (place ∷ places) zero = refl
moved_down-none t (None ∷ places) (suc k) = moved_down-none t places k
moved_down-none t (Some u ∷ places) (suc k) = elim (cases_Bool (same_tile t u)) [
  | inl same ↦ rw same (moved_down-none t places k)
  | inr other ↦ rw other (ap (λ rest. u ∷ rest) (moved_down-none t places k))
]

-- The main step: of the places up to any, what is carried down becomes the first, the tile goes from its earlier place, and the last makes room
-- where there is no hole.
pub moved_down-some : (t c : Tile) (places : List (Option Tile)) (k : ℕ) → k ≤ length places
    → tiles_in (take k (moved_down t (Some c) places)) ≡ take k (c ∷ without t (tiles_in (take k places)))
moved_down-some t c places zero within = refl
moved_down-some t c [] (suc k) within = absurd (omega arith)
moved_down-some t c (None ∷ places) (suc k) within =
    ap (λ rest. c ∷ rest)
    (moved_down-none t places k ∙ sym (take_all k (without t (tiles_in (take k places))) (tiles_in-within k places t)))
moved_down-some t c (Some u ∷ places) (suc k) within = elim (cases_Bool (same_tile t u)) [
  | inl same ↦ rw same (ap (λ rest. c ∷ rest) (moved_down-none t places k
      ∙ sym (take_all k (without t (tiles_in (take k places))) (tiles_in-within k places t))))
  | inr other ↦ rw other (ap (λ rest. c ∷ rest) (moved_down-some t u places k (omega arith)))
]

pub length-moved_down : (t : Tile) (carried : Option Tile) (places : List (Option Tile))
    → length (moved_down t carried places) ≡ length places
length-moved_down t carried [] = refl
length-moved_down t None (place ∷ places) = ap suc (length-moved_down t None places)
length-moved_down t (Some c) (place ∷ places) = ap suc (length-moved_down t (left_by t place) places)

-- what fails a test goes from the places up to any
pub tiles_in-kept : (test : Tile → Bool) (places : List (Option Tile)) (k : ℕ)
    → tiles_in (take k (map (kept_at test) places)) ≡ filter test (tiles_in (take k places))
tiles_in-kept test [] zero = refl
tiles_in-kept test [] (suc k) = refl
tiles_in-kept test (place ∷ places) zero = refl
tiles_in-kept test (None ∷ places) (suc k) = tiles_in-kept test places k
tiles_in-kept test (Some u ∷ places) (suc k) = elim (cases_Bool (test u)) [
  | inl passes ↦ rw passes (ap (λ rest. u ∷ rest) (tiles_in-kept test places k))
  | inr fails ↦ rw fails (tiles_in-kept test places k)
]

pub kept_at-fails : (test : Tile → Bool) (place : Option Tile) (t : Tile) → place ≡ Some t → test t ≡ false → None ≡ kept_at test place
kept_at-fails test place t is fails = rw is (rw fails)

pub kept_at-passes : (test : Tile → Bool) (place : Option Tile) (t : Tile) → place ≡ Some t → test t ≡ true → place ≡ kept_at test place
kept_at-passes test place t is passes = rw is (rw passes)

-- one place more of a row is mapped
pub map_more : {A : Type 0} (f : A → A) (xs : List A) (i : ℕ) (d y : A) → i < length xs → y ≡ f (get_or xs i d)
    → take i xs ++ map f (drop i xs) ≡ take (i + 1) (set xs i y) ++ map f (drop (i + 1) (set xs i y))
map_more f xs i d y within is =
    rw (take_more_set xs i y within, drop-set-lt (i + 1) xs i y (omega arith), drop_more xs i d within, append_assoc, is)

-- Lists that are the same from a place on, of which one is written there.
pub same_next : {A : Type 0} (xs ys : List A) (i : ℕ) (y : A) → i < length xs → drop i xs ≡ drop i ys
    → drop (i + 1) (set xs i y) ≡ drop (i + 1) ys
same_next xs ys i y within same =
    drop-set-lt (i + 1) xs i y (omega arith) ∙ sym (drop-drop 1 i xs) ∙ ap (drop 1) same ∙ drop-drop 1 i ys

pub same_drop : {A : Type 0} (xs ys : List A) (i : ℕ) (d : A) → i < length xs → drop i xs ≡ drop i ys
    → (i < length ys) × (get_or xs i d ≡ get_or ys i d)
same_drop xs ys i d within same = (
  omega (arith, length-drop i xs, length-drop i ys, ap length same),
  ap (λ l. get_or l 0 d) (sym (drop_more xs i d within)) ∙ ap (λ l. get_or l 0 d) same ∙ get_or-drop i ys 0 d
      ∙ ap (λ n. get_or ys n d) (let same : i + 0 ≡ i = omega arith in same),
)

-- Places whose tiles pass a test.

kept-passes : (test : Tile → Bool) (place : Option Tile) → Passes test (kept_at test place)
kept-passes test None = tt
kept-passes test (Some u) = cond_both (test u) (Some u) None (Passes test) (λ passes. passes) (λ fails. tt)

pub All-kept : (test : Tile → Bool) (places : List (Option Tile)) → All (Passes test) (map (kept_at test) places)
All-kept test places = All-map (Passes test) (kept_at test) places (λ k d below. kept-passes test (get_or places k d))

left-passes : (test : Tile → Bool) (t : Tile) (place : Option Tile) → Passes test place → Passes test (left_by t place)
left-passes test t place passes = cond_both (is_at t place) None place (Passes test) (λ at. tt) (λ other. passes)

pub All-moved : (test : Tile → Bool) (t : Tile) (carried : Option Tile) (places : List (Option Tile)) → Passes test carried
    → All (Passes test) places
    → All (Passes test) (moved_down t carried places)
All-moved test t carried [] passes all = All-nil (Passes test)
All-moved test t None (place ∷ places) passes all =
    All-cons (Passes test) (left_by t place) (moved_down t None places) (left-passes test t place (All-head (Passes test) place places all))
    (All-moved test t None places tt (All-tail (Passes test) place places all))
All-moved test t (Some c) (place ∷ places) passes all =
    All-cons (Passes test) (Some c) (moved_down t (left_by t place) places) passes
    (All-moved test t (left_by t place) places (left-passes test t place (All-head (Passes test) place places all))
    (All-tail (Passes test) place places all))

still-passes : (was test : Tile → Bool) (place : Option Tile) → ((t : Tile) → was t ≡ true → test t ≡ true) → Passes was place
    → Passes test place
still-passes was test None still passes = tt
still-passes was test (Some u) still passes = still u passes

pub All-still : (was test : Tile → Bool) (places : List (Option Tile)) → ((t : Tile) → was t ≡ true → test t ≡ true)
    → All (Passes was) places → All (Passes test) places
All-still was test places still all = λ k d below. still-passes was test (get_or places k d) still (all k d below)

kept-same : (test : Tile → Bool) (place : Option Tile) → Passes test place → kept_at test place ≡ place
kept-same test None passes = refl
kept-same test (Some u) passes = cond-true (test u) (Some u) None passes

-- where all pass none goes
pub map-same : (test : Tile → Bool) (places : List (Option Tile)) → All (Passes test) places → map (kept_at test) places ≡ places
map-same test places all = map_fixed (kept_at test) places (λ k d below. kept-same test (get_or places k d) (all k d below))

-- A stack after an entry, part by part.
pub kept_used : (test : Tile → Bool) (kept : Kept) (used : Option Use) (u : Use) (places : List (Option Tile)) (found : List ℕ) (uses : ℕ)
    → used ≡ Some u
    → places ≡ moved_down u.after (Some u.after) (map (kept_at test) kept.places)
    → found ≡ found_at (position_of u.before kept.places) kept.found → uses ≡ kept.uses + 1
    → record { places = places; found = found; uses = uses } ≡ kept_after test used kept
kept_used test kept used u places found uses is moved counted more = rw is
    (λ i. record { places = moved i; found = counted i; uses = more i })

pub kept_unused : (test : Tile → Bool) (kept : Kept) (used : Option Use) (places : List (Option Tile)) (found : List ℕ) (uses : ℕ)
    → used ≡ None
    → places ≡ map (kept_at test) kept.places → found ≡ kept.found → uses ≡ kept.uses
    → record { places = places; found = found; uses = uses } ≡ kept_after test used kept
kept_unused test kept used places found uses is left same none = rw is (λ i. record { places = left i; found = same i; uses = none i })
