-- A page's tile is a tile of the pages, and the tiles of images stay tiles of them.
use Rattle.std.proofs.Common.{◌≡◌, ℕ, zero, suc, ◌*◌, ◌/◌, ◌^◌, ◌≤◌, ◌⊎◌, Bool, true, false, ◌&&◌, not, if◌then◌else◌, List, [], ◌∷◌, filter, take, Option, Some, None, refl, sym, ap, inl, inr, ◌∙◌, arith}
use Rattle.std.specs.List.{list_all}
use Rattle.std.specs.Option.{option_or}
use Rattle.std.proofs.lemmas.Bool.{cases_Bool, and_parts, cond-true, cond-false}
use Rattle.std.proofs.lemmas.Option.{none-some, cond_some}
use Rattle.pager_model.specs.declared.tile.Mapping.{Mapping}
use Rattle.pager_model.specs.declared.tile.Tile.{Tile}
use Rattle.pager_model.specs.Extents.{extent_start}
use Rattle.pager_model.specs.Images.{image_capacity, still_tiles, touched, touched_by}
use Rattle.pager_model.specs.SizeSets.{SizeSet, has_size}
use Rattle.pager_model.specs.Tiles.{same_tile, tile_with, is_eligible, eligible_with, eligible_at, largest_among, is_that_tile, tile_in, is_tile_in}
use Rattle.pager_model.proofs.ExtentLemmas.{coarser, first_of_extent}
use Rattle.pager_model.proofs.Lists.{filter-all}
use Rattle.pager_model.proofs.TileParts.{same_tile-refl}

-- A page's tile.

-- pages of one extent have the same eligible one round them
eligible_alike : (pages : ℕ → Option Mapping) (k p q : ℕ) → p / 8 ^ k ≡ q / 8 ^ k → eligible_at pages k p ≡ eligible_at pages k q
eligible_alike pages k p q same = ap (λ n. eligible_with pages k (n * 8 ^ k) (pages (n * 8 ^ k))) same

-- it is an extent of the size, and begins at the extent's first page
eligible_names : (pages : ℕ → Option Mapping) (k first : ℕ) (o : Option Mapping) (t : Tile) → eligible_with pages k first o ≡ Some t
    → (t.extent.size ≡ k) × (t.extent.first ≡ first)
eligible_names pages k first None t is = absurd (none-some t is)
eligible_names pages k first (Some m) t is =
    let whole = cond_some (is_eligible pages k first m) (tile_with k first m) t is in
    (sym (ap (λ (u : Tile). u.extent.size) whole.1), sym (ap (λ (u : Tile). u.extent.first) whole.1))

either : (here later : Option Tile) (t : Tile) → option_or here later ≡ Some t → (here ≡ Some t) ⊎ ((here ≡ None) × (later ≡ Some t))
either None later t is = inr (refl, is)
either (Some u) later t is = inl is

module _ (z : SizeSet) (pages : ℕ → Option Mapping) (t : Tile) where
  -- the largest up to a size is an extent round the page
  among_names : (k page : ℕ) → largest_among z pages k page ≡ Some t → (t.extent.size ≤ k)
      × (t.extent.first ≡ extent_start t.extent.size page)
  among_names zero page is =
      let names = eligible_names pages 0 (extent_start 0 page) (pages (extent_start 0 page)) t is in
      (omega (arith, names.0), names.1 ∙ ap (λ n. extent_start n page) (sym names.0))
  among_names (suc k) page is = elim (cases_Bool (has_size z (suc k))) [
    | inl has ↦ elim (either (eligible_at pages (suc k) page) (largest_among z pages k page) t (sym (cond-true _ _ _ has) ∙ is)) [
      | inl here ↦
          let names = eligible_names pages (suc k) (extent_start (suc k) page) (pages (extent_start (suc k) page)) t here in
          (omega (arith, names.0), names.1 ∙ ap (λ n. extent_start n page) (sym names.0))
      | inr later ↦ let rest = among_names k page later.1 in (omega (arith, rest.0), rest.1)
    ]
    | inr not ↦ let rest = among_names k page (sym (cond-false _ _ _ not) ∙ is) in (omega (arith, rest.0), rest.1)
  ]

  -- and it is the largest round each of its pages
  among_alike : (p q : ℕ) → ((j : ℕ) → t.extent.size ≤ j → j ≤ 3 → p / 8 ^ j ≡ q / 8 ^ j) → (k : ℕ) → k ≤ 3
      → largest_among z pages k p ≡ Some t → largest_among z pages k q ≡ Some t
  among_alike p q joined zero low is = sym (eligible_alike pages 0 p q (joined 0 (among_names 0 p is).0 (omega arith))) ∙ is
  among_alike p q joined (suc k) low is =
      let same = eligible_alike pages (suc k) p q (joined (suc k) (among_names (suc k) p is).0 low) in
      elim (cases_Bool (has_size z (suc k))) [
        | inl has ↦
            cond-true _ _ _ has ∙ ap (λ o. option_or o (largest_among z pages k q)) (sym same)
            ∙ elim (either (eligible_at pages (suc k) p) (largest_among z pages k p) t (sym (cond-true _ _ _ has) ∙ is)) [
              | inl here ↦ ap (λ o. option_or o (largest_among z pages k q)) here
              | inr later ↦ ap (λ o. option_or o (largest_among z pages k q)) later.0 ∙ among_alike p q joined k (omega arith) later.1
            ]
        | inr not ↦ cond-false _ _ _ not ∙ among_alike p q joined k (omega arith) (sym (cond-false _ _ _ not) ∙ is)
      ]

-- the tile of a page by these sizes is a tile by them
pub tile_in-is_tile : (z : SizeSet) (pages : ℕ → Option Mapping) (page : ℕ) (t : Tile) → tile_in z pages page ≡ Some t
    → is_tile_in z pages t ≡ true
tile_in-is_tile z pages page t is =
    let names = among_names z pages t 3 page is in
    let start : page / 8 ^ t.extent.size ≡ t.extent.first / 8 ^ t.extent.size =
    sym (ap (λ n. n / 8 ^ t.extent.size) names.1 ∙ first_of_extent t.extent.size page) in
    let joined : (j : ℕ) → t.extent.size ≤ j → j ≤ 3 → page / 8 ^ j ≡ t.extent.first / 8 ^ j =
    λ j more low. coarser t.extent.size j page t.extent.first more low start in
    ap (is_that_tile t) (among_alike z pages t page t.extent.first joined 3 (omega arith) is) ∙ same_tile-refl t

-- Images.

all_filtered : (test : Tile → Bool) (ts : List Tile) → list_all test (filter test ts) ≡ true
all_filtered test [] = refl
all_filtered test (t ∷ ts) =
    elim (cases_Bool (test t)) [
      | inl is ↦ ap (list_all test) (cond-true _ _ _ is) ∙ ap (λ b. b && list_all test (filter test ts)) is ∙ all_filtered test ts
      | inr isnt ↦ ap (list_all test) (cond-false _ _ _ isnt) ∙ all_filtered test ts
    ]

all_still : (test other : Tile → Bool) (ts : List Tile) → list_all test ts ≡ true → list_all test (filter other ts) ≡ true
all_still test other [] h = refl
all_still test other (t ∷ ts) h =
    let parts = and_parts _ _ h in
    elim (cases_Bool (other t)) [
      | inl is ↦ ap (list_all test) (cond-true _ _ _ is) ∙ ap (λ b. b && list_all test (filter other ts)) parts.0
          ∙ all_still test other ts parts.1
      | inr isnt ↦ ap (list_all test) (cond-false _ _ _ isnt) ∙ all_still test other ts parts.1
    ]

all_taken : (test : Tile → Bool) (n : ℕ) (ts : List Tile) → list_all test ts ≡ true → list_all test (take n ts) ≡ true
all_taken test zero ts h = refl
all_taken test (suc n) [] h = refl
all_taken test (suc n) (t ∷ ts) h =
    let parts = and_parts _ _ h in ap (λ b. b && list_all test (take n ts)) parts.0 ∙ all_taken test n ts parts.1

-- what was a tile of these pages still is one
pub still_again : (z : SizeSet) (pages : ℕ → Option Mapping) (ts : List Tile)
    → still_tiles z pages (still_tiles z pages ts) ≡ still_tiles z pages ts
still_again z pages ts = filter-all (is_tile_in z pages) (still_tiles z pages ts) (all_filtered (is_tile_in z pages) ts)

-- a tile of these pages, where there is one
abbrev pub IsUsed : SizeSet → (ℕ → Option Mapping) → Option Tile → Type 0
IsUsed z pages None = Unit {0}
IsUsed z pages (Some t) = is_tile_in z pages t ≡ true

touched_kept : (z : SizeSet) (pages : ℕ → Option Mapping) (o : Option Tile) (ts : List Tile) → IsUsed z pages o
    → still_tiles z pages ts ≡ ts → still_tiles z pages (touched_by o ts) ≡ touched_by o ts
touched_kept z pages None ts is kept = kept
touched_kept z pages (Some t) ts is kept =
    let others = all_still (is_tile_in z pages) (λ u. not (same_tile t u)) ts
    (ap (list_all (is_tile_in z pages)) (sym kept) ∙ all_filtered (is_tile_in z pages) ts) in
    filter-all (is_tile_in z pages) (touched t ts)
    (all_taken (is_tile_in z pages) image_capacity (t ∷ filter (λ u. not (same_tile t u)) ts)
    (ap (λ b. b && list_all (is_tile_in z pages) (filter (λ u. not (same_tile t u)) ts)) is ∙ others))

-- one processor used a tile, or none
pub touched_if : (z : SizeSet) (pages : ℕ → Option Mapping) (here : Bool) (o : Option Tile) (ts : List Tile) → IsUsed z pages o
    → still_tiles z pages ts ≡ ts
    → still_tiles z pages (touched_by (if here then o else None) ts) ≡ touched_by (if here then o else None) ts
touched_if z pages true o ts is kept = touched_kept z pages o ts is kept
touched_if z pages false o ts is kept = kept

-- the tile of a page is a tile
pub used_at : (z : SizeSet) (pages : ℕ → Option Mapping) (page : ℕ) (o : Option Tile) → tile_in z pages page ≡ o → IsUsed z pages o
used_at z pages page None at = tt
used_at z pages page (Some t) at = tile_in-is_tile z pages page t at
