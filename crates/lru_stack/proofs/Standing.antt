-- The stack stands for the images of all capacities after each entry.
use Rattle.std.proofs.Common.{◌≡◌, ℕ, zero, suc, ◌+◌, ◌<◌, ◌≤◌, Bool, true, false, List, [], ◌∷◌, length, get_or, set, take, map, filter, nat_lt, sum, replicate, Some, None, Option, inl, inr, refl, sym, ap, ◌∙◌, if◌then◌else◌, arith}
use Rattle.std.specs.Option.{IfSome}
use Rattle.std.specs.List.{All, list_any, position, position_or_len}
use Rattle.std.proofs.lemmas.Bool.{cases_Bool, cases_lt, lt-ltb, le-ltb, cond-true, cond-false}
use Rattle.std.proofs.lemmas.List.{length-map, length-take-le, get_or-take, take-set-le}
use Rattle.std.proofs.lemmas.List.Sums.{sum_by-set}
use Rattle.pager_model.specs.declared.entry.Entry.{Entry}
use Rattle.pager_model.specs.declared.tile.Mapping.{Mapping}
use Rattle.pager_model.specs.declared.tile.Tile.{Tile}
use Rattle.pager_model.specs.Images.{is_in_image}
use Rattle.pager_model.specs.SpaceStates.{SpaceState, empty_state, space_after, pages_of, pages_after, tile_at}
use Rattle.pager_model.specs.SizeSets.{SizeSet}
use Rattle.pager_model.specs.Tiles.{same_tile, is_tile_in}
use Rattle.pager_laws.proofs.ImageTiles.{tile_in-is_tile}
use Rattle.lru_stack.specs.declared.stack.Use.{Use}
use Rattle.lru_stack.specs.Followers.{Follower, begun, follow, page_used, image_after, missed, without}
use Rattle.lru_stack.specs.Stacks.{Kept, Passes, Stands, is_at, kept_at, tiles_in, moved_down, found_at, position_of, kept_after, StandsAt, StandsFor, IsUse}
use Rattle.lru_stack.proofs.StackLemmas.{tiles_in-kept, moved_down-some, length-moved_down, All-kept, All-moved}

-- what stands at a place is in the image of a capacity exactly where the place comes before it
abbrev is_found : ℕ → Option ℕ → Bool
is_found k None = false
is_found k (Some place) = nat_lt place k

nat_lt-suc : (n k : ℕ) → nat_lt (1 + n) (suc k) ≡ nat_lt n k
nat_lt-suc n k = elim (cases_lt n k) [
  | inl h ↦ lt-ltb (1 + n) (suc k) (omega arith) ∙ sym (lt-ltb n k h)
  | inr h ↦ le-ltb (1 + n) (suc k) (omega arith) ∙ sym (le-ltb n k h)
]

hit-place_or_len : (t : Tile) (places : List (Option Tile)) (k : ℕ) → k ≤ length places
    → list_any (same_tile t) (tiles_in (take k places)) ≡ nat_lt (position_or_len (is_at t) places) k
hit-place_or_len t places zero within = sym (le-ltb (position_or_len (is_at t) places) 0 (omega arith))
hit-place_or_len t [] (suc k) within = absurd (omega arith)
hit-place_or_len t (None ∷ places) (suc k) within =
    hit-place_or_len t places k (omega arith) ∙ sym (nat_lt-suc (position_or_len (is_at t) places) k)
hit-place_or_len t (Some u ∷ places) (suc k) within = elim (cases_Bool (same_tile t u)) [
  | inl same ↦ rw same (sym (lt-ltb 0 (suc k) (omega arith)))
  | inr other ↦ rw other (hit-place_or_len t places k (omega arith) ∙ sym (nat_lt-suc (position_or_len (is_at t) places) k))
]

hit-place : (t : Tile) (places : List (Option Tile)) (k : ℕ) → k ≤ length places
    → list_any (same_tile t) (tiles_in (take k places)) ≡ is_found k (position (is_at t) places)
hit-place t places k within =
    let n = position_or_len (is_at t) places in
    hit-place_or_len t places k within ∙ elim (cases_lt n (length places)) [
      | inl below ↦ sym (ap (is_found k) (cond-true (nat_lt n (length places)) (Some n) None (lt-ltb n (length places) below)))
      | inr past ↦ le-ltb n k (omega arith) ∙ sym
          (ap (is_found k) (cond-false (nat_lt n (length places)) (Some n) None (le-ltb n (length places) past)))
    ]

hit-position_of : (before : Option Tile) (places : List (Option Tile)) (k : ℕ) → k ≤ length places
    → is_in_image (tiles_in (take k places)) before ≡ is_found k (position_of before places)
hit-position_of None places k within = refl
hit-position_of (Some t) places k within = hit-place t places k within

-- one use more at a place counts for each capacity past it
take-set_lt : (k : ℕ) (xs : List ℕ) (i y : ℕ) → i < k → take k (set xs i y) ≡ set (take k xs) i y
take-set_lt zero xs i y below = absurd (omega arith)
take-set_lt (suc k) [] i y below = refl
take-set_lt (suc k) (x ∷ xs) zero y below = refl
take-set_lt (suc k) (x ∷ xs) (suc i) y below = ap (λ rest. x ∷ rest) (take-set_lt k xs i y (omega arith))

abbrev counts : Bool → ℕ
counts b = if b then 1 else 0

sum-found_some : (k place : ℕ) (found : List ℕ) → k ≤ length found → sum (take k (found_at (Some place) found)) ≡ sum
    (take k found) + counts (nat_lt place k)
sum-found_some k place found within = elim (cases_lt place k) [
  | inl below ↦
      rw (lt-ltb place k below, take-set_lt k found place (get_or found place 0 + 1) below)
      (omega (
        arith,
        sum_by-set (λ x. x) (take k found) place (get_or found place 0 + 1) 0 (omega (arith, length-take-le k found within)),
        get_or-take k found place 0 below,
      ))
  | inr past ↦ rw (le-ltb place k past, take-set-le k found place (get_or found place 0 + 1) past) (omega arith)
]

sum-found : (k : ℕ) (place : Option ℕ) (found : List ℕ) → k ≤ length found
    → sum (take k (found_at place found)) ≡ sum (take k found) + counts (is_found k place)
sum-found k None found within = omega arith
sum-found k (Some place) found within = sum-found_some k place found within

missed-counts : (page : ℕ) (found : Bool) → missed (Some page) found + counts found ≡ 1
missed-counts page true = refl
missed-counts page false = refl

-- the images after a use, or without one, and how many uses more were misses
record After (z : SizeSet) (k : ℕ) (kept : Kept) (used : Option Use) (before after : ℕ → Option Mapping) (page : Option ℕ) : Type 0 where
  same : image_after z k after page (tiles_in (take k kept.places)) ≡ tiles_in (take k (kept_after (is_tile_in z after) used kept).places)
  counts : missed page (is_in_image (tiles_in (take k kept.places)) (tile_at z before page))
      + sum (take k (kept_after (is_tile_in z after) used kept).found) + kept.uses
      ≡ (kept_after (is_tile_in z after) used kept).uses + sum (take k kept.found)

after_use : (z : SizeSet) (k : ℕ) (kept : Kept) (used : Option Use) (old new : ℕ → Option Mapping) (page : Option ℕ)
    → k ≤ length kept.places → length kept.found ≡ length kept.places → IsUse z old new page used → After z k kept used old new page
after_use z k kept used old new None within long is =
    rw is (record {
      same = sym (tiles_in-kept (is_tile_in z new) kept.places k);
      counts = omega arith;
    })
after_use z k kept used old new (Some page) within long is =
    let test : Tile → Bool = is_tile_in z new in
    let t : Tile = is.0 in
    let was : Option Tile = tile_at z old (Some page) in
    let row : List (Option Tile) = map (kept_at test) kept.places in
    let kept_row : filter test (tiles_in (take k kept.places)) ≡ tiles_in (take k row) = sym (tiles_in-kept test kept.places k) in
    let moved : tiles_in (take k (moved_down t (Some t) row)) ≡ take k (t ∷ without t (tiles_in (take k row))) =
    moved_down-some t t row k (omega (arith, length-map kept.places (kept_at test))) in
    let hit : is_in_image (tiles_in (take k kept.places)) was ≡ is_found k (position_of was kept.places) =
    hit-position_of was kept.places k within in
    rw (is.2) (record {
      same = rw (is.1) (ap (λ ts. take k (t ∷ without t ts)) kept_row ∙ sym moved);
      counts = omega (
        arith,
        sum-found k (position_of was kept.places) kept.found (omega arith),
        missed-counts page (is_found k (position_of was kept.places)),
        ap (missed (Some page)) hit,
      );
    })

pub stands-after : (z : SizeSet) (st : SpaceState) (e : Entry) (followers : ℕ → Follower) (kept : Kept) (used : Option Use)
    → length kept.found ≡ length kept.places
    → IsUse z (pages_of st) (pages_after st e.frames e.what) (page_used e.processor e.what) used
    → StandsFor kept st followers
    → (capacity : ℕ) → capacity ≤ length kept.places
    → StandsAt (kept_after (is_tile_in z (pages_after st e.frames e.what)) used kept) (space_after st e) capacity
    (follow z capacity (followers capacity) e)
stands-after z st e followers kept used long is stands k within =
    let at = stands k within in
    let page : Option ℕ = page_used e.processor e.what in
    let pages : ℕ → Option Mapping = pages_after st e.frames e.what in
    let now : After z k kept used (pages_of st) pages page = after_use z k kept used (pages_of st) pages page within long is in
    record {
      space = ap (λ s. space_after s e) at.space;
      image = ap (λ s. image_after z k (pages_after s e.frames e.what) page (followers k).image) at.space
          ∙ ap (image_after z k pages page) at.image ∙ now.same;
      misses = ap (λ s. (followers k).misses + missed page (is_in_image (followers k).image (tile_at z (pages_of s) page))
          + sum (take k (kept_after (is_tile_in z pages) used kept).found)) at.space
          ∙ omega (
            arith,
            now.counts,
            at.misses,
            ap (λ ts. missed page (is_in_image ts (tile_at z (pages_of st) page))) at.image,
          );
    }

pub length-kept_after : (test : Tile → Bool) (used : Option Use) (kept : Kept)
    → length (kept_after test used kept).places ≡ length kept.places
length-kept_after test None kept = length-map kept.places (kept_at test)
length-kept_after test (Some use') kept = length-moved_down use'.after (Some use'.after) (map (kept_at test) kept.places)
    ∙ length-map kept.places (kept_at test)

-- Holes have no tile, and zeros no sum.
pub tiles_in-holes : (k n : ℕ) → tiles_in (take k (replicate n None)) ≡ []
tiles_in-holes zero n = refl
tiles_in-holes (suc k) zero = refl
tiles_in-holes (suc k) (suc n) = tiles_in-holes k n

pub sum-zeros : (k n : ℕ) → sum (take k (replicate n 0)) ≡ 0
sum-zeros zero n = refl
sum-zeros (suc k) zero = refl
sum-zeros (suc k) (suc n) = sum-zeros k n

-- a row of holes stands for images at the beginning
pub stands-begun : (kept : Kept) (n : ℕ) (sizes : SizeSet) (told : Bool) (faults : ℕ) → kept.places ≡ replicate n None
    → kept.found ≡ replicate n 0 → kept.uses ≡ 0
    → StandsFor kept (empty_state sizes told faults) (λ _. begun sizes told faults)
stands-begun kept n sizes told faults places found uses k within = record {
  space = refl;
  image = rw places (sym (tiles_in-holes k n));
  misses = rw (found, uses) (omega (arith, sum-zeros k n));
}

-- each tile of the stack after an entry passes the test
pub tiles-after : (test : Tile → Bool) (used : Option Use) (kept : Kept) → IfSome used (λ (u : Use). test u.after ≡ true)
    → All (Passes test) (kept_after test used kept).places
tiles-after test None kept passes = All-kept test kept.places
tiles-after test (Some use') kept passes = All-moved test use'.after (Some use'.after) (map (kept_at test) kept.places) passes
    (All-kept test kept.places)

-- what was used is a tile then
used-is_tile : (z : SizeSet) (before after : ℕ → Option Mapping) (page : Option ℕ) (used : Option Use) → IsUse z before after page used
    → IfSome used (λ (u : Use). is_tile_in z after u.after ≡ true)
used-is_tile z before after None used is = rw is tt
used-is_tile z before after (Some page) used is = rw is.2 (tile_in-is_tile z after page is.0 is.1)

pub stands-again : (z : SizeSet) (st : SpaceState) (e : Entry) (followers : ℕ → Follower) (kept : Kept) (used : Option Use)
    → length kept.found ≡ length kept.places
    → IsUse z (pages_of st) (pages_after st e.frames e.what) (page_used e.processor e.what) used
    → Stands z kept st followers
    → Stands z (kept_after (is_tile_in z (pages_after st e.frames e.what)) used kept) (space_after st e)
    (λ capacity. follow z capacity (followers capacity) e)
stands-again z st e followers kept used long is stands =
    let test : Tile → Bool = is_tile_in z (pages_after st e.frames e.what) in
    record {
      images = λ k within. stands-after z st e followers kept used long is stands.images k
          (omega (arith, within, length-kept_after test used kept));
      tiles = tiles-after test used kept (used-is_tile z (pages_of st) (pages_after st e.frames e.what)
          (page_used e.processor e.what) used is);
    }
