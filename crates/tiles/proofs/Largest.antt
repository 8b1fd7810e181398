-- The size of a page's tile: the largest at which the extent round it is eligible.
use Rattle.std.proofs.Common.{◌≡◌, ℕ, zero, suc, ◌+◌, ◌-◌, ◌/◌, ◌%◌, ◌^◌, ◌<◌, ◌≤◌, Bool, true, false, Option, Some, None, refl, sym, ap, inl, inr, ◌∙◌, ◌⊎◌, arith, subst}
use Rattle.std.specs.Option.{option_or}
use Rattle.std.proofs.lemmas.Bool.{cases_Bool, cases_eq, cases_lt}
use Rattle.std.proofs.lemmas.Option.{none-some, same_Some}
use Rattle.pager_model.specs.declared.tile.Mapping.{Mapping}
use Rattle.pager_model.specs.declared.tile.Tile.{Tile}
use Rattle.pager_model.specs.Extents.{extent_start}
use Rattle.pager_model.specs.Tiles.{moved_by, tile_with, eligible_at, largest_up_to, tile_of, size_in, size_at}
use Rattle.pager_model.proofs.ExtentLemmas.{coarser}
use Rattle.tiles.specs.Beside.{whole}
use Rattle.tiles.proofs.Eligible.{HasExtent, whole_has, has_whole, whole_none, whole_alike, eligible_is, page_in, smaller, page_whole}
use Rattle.tiles.proofs.Extents.{StartsBelow, starts_below}

-- the largest eligible extent round a page has this size, up to one
record IsLargest (pages : ℕ → Option Mapping) (page top k : ℕ) : Type 0 where
  pub low : k ≤ top
  pub has : HasExtent pages k page
  pub is : largest_up_to pages top page ≡ eligible_at pages k page
  pub larger : (j : ℕ) → k < j → j ≤ top → whole pages j page ≡ false

record HasNone (pages : ℕ → Option Mapping) (page top : ℕ) : Type 0 where
  pub is : largest_up_to pages top page ≡ None
  pub fails : (j : ℕ) → j ≤ top → whole pages j page ≡ false

largest : (pages : ℕ → Option Mapping) (page top : ℕ) → HasNone pages page top ⊎ ((k : ℕ) × IsLargest pages page top k)
largest pages page zero = elim (cases_Bool (whole pages 0 page)) [
  | inl passes ↦ inr (
    0,
    record {
      low = omega arith;
      has = whole_has pages 0 page passes;
      is = refl;
      larger = λ j above below. absurd (omega arith);
    },
  )
  | inr misses ↦ inl (record {
    is = whole_none pages 0 page misses;
    fails = λ j below. ap (λ i. whole pages i page) {x = j} {y = 0}
        (omega arith) ∙ misses;
  })
]
largest pages page (suc top) = elim (cases_Bool (whole pages (suc top) page)) [
  | inl passes ↦
      let h = whole_has pages (suc top) page passes in
      let e = eligible_is pages (suc top) page h in
      inr (
        suc top,
        record {
          low = omega arith;
          has = h;
          is = ap (λ o. option_or o (largest_up_to pages top page)) e ∙ sym e;
          larger = λ j above below. absurd (omega arith);
        },
      )
  | inr misses ↦
      let e = whole_none pages (suc top) page misses in
      let further = ap (λ o. option_or o (largest_up_to pages top page)) e in
      elim (largest pages page top) [
        | inl none ↦ inl (record {
          is = further ∙ none.is;
          fails = λ j below. elim (cases_eq j (suc top)) [
            | inl at ↦ ap (λ i. whole pages i page) at ∙ misses
            | inr n ↦
                none.fails j (omega arith)
          ];
        })
        | inr some ↦ inr (
          some.0,
          record {
            low = omega (arith, some.1.low);
            has = some.1.has;
            is = further ∙ some.1.is;
            larger = λ j above below. elim (cases_eq j (suc top)) [
              | inl at ↦ ap (λ i. whole pages i page) at ∙ misses
              | inr n ↦
                  some.1.larger j above (omega arith)
            ];
          },
        )
      ]
]

-- a resident page's tile is the eligible extent of its size
pub record HasTile (pages : ℕ → Option Mapping) (page size : ℕ) : Type 0 where
  pub low : size ≤ 3
  pub has : HasExtent pages size page
  pub is : tile_of pages page ≡ Some (tile_with size (extent_start size page) has.head)
  pub larger : (j : ℕ) → size < j → j ≤ 3 → whole pages j page ≡ false

-- and another page has none
pub record HasNoTile (pages : ℕ → Option Mapping) (page : ℕ) : Type 0 where
  pub absent : pages page ≡ None
  pub is : tile_of pages page ≡ None
  pub size : size_at pages page ≡ 0
  pub fails : (j : ℕ) → j ≤ 3 → whole pages j page ≡ false

absent_if : (pages : ℕ → Option Mapping) (page : ℕ) (o : Option Mapping) → pages page ≡ o → whole pages 0 page ≡ false → o ≡ None
absent_if pages page None at misses = refl
absent_if pages page (Some m) at misses = let passes = has_whole pages 0 page (page_whole pages page m at) in absurd (cc)

pub tiles : (pages : ℕ → Option Mapping) (page : ℕ) → HasNoTile pages page ⊎ HasTile pages page (size_at pages page)
tiles pages page = elim (largest pages page 3) [
  | inl none ↦ inl (record {
    absent = absent_if pages page (pages page) refl (none.fails 0 (omega arith));
    is = none.is;
    size = ap size_in none.is;
    fails = none.fails;
  })
  | inr some ↦
      let is : tile_of pages page ≡ Some (tile_with some.0 (extent_start some.0 page) some.1.has.head) = some.1.is
      ∙ eligible_is pages some.0 page some.1.has in
      let size : some.0 ≡ size_at pages page = sym (ap size_in is) in
      inr (subst (λ (k : ℕ). HasTile pages page k) size (record { low = some.1.low; has = some.1.has; is = is; larger = some.1.larger }))
]

pub resident_tile : (pages : ℕ → Option Mapping) (page : ℕ) (m : Mapping) → pages page ≡ Some m → HasTile pages page (size_at pages page)
resident_tile pages page m at = elim (tiles pages page) [ inl none ↦ absurd (none-some m (sym none.absent ∙ at)) | inr tile ↦ tile ]

pub size_small : (pages : ℕ → Option Mapping) (page : ℕ) → size_at pages page ≤ 3
size_small pages page = elim (tiles pages page) [ inl none ↦ omega (arith, none.size) | inr tile ↦ tile.low ]

pub size_absent : (pages : ℕ → Option Mapping) (page : ℕ) → pages page ≡ None → size_at pages page ≡ 0
size_absent pages page at = elim (tiles pages page) [
  | inl none ↦ none.size
  | inr tile ↦
      let zero_whole = smaller pages 0 (size_at pages page) page (omega arith) tile.low tile.has in
      absurd (none-some _ (sym at ∙ page_in pages 0 page page zero_whole (omega arith) refl))
]

pub none_size : (pages : ℕ → Option Mapping) (page : ℕ) → 0 < size_at pages page → HasTile pages page (size_at pages page)
none_size pages page above = elim (tiles pages page) [ inl none ↦ absurd (omega (arith, none.size)) | inr tile ↦ tile ]

-- up to its tile's size the extents round a page are eligible, and no larger one is
pub whole_within : (pages : ℕ → Option Mapping) (page k : ℕ) → 0 < k → k ≤ size_at pages page → whole pages k page ≡ true
whole_within pages page k above below =
    let tile = none_size pages page (omega arith) in
    has_whole pages k page (smaller pages k (size_at pages page) page below tile.low tile.has)

pub whole_beyond : (pages : ℕ → Option Mapping) (page k : ℕ) → size_at pages page < k → k ≤ 3 → whole pages k page ≡ false
whole_beyond pages page k above below = elim (tiles pages page) [ inl none ↦ none.fails k below | inr tile ↦ tile.larger k above below ]

true_false : {b : Bool} → b ≡ true → b ≡ false → ⊥
true_false t f = cc

-- a whole extent is no larger than the tile
pub within_size : (pages : ℕ → Option Mapping) (page k : ℕ) → k ≤ 3 → whole pages k page ≡ true → k ≤ size_at pages page
within_size pages page k low passes = elim (cases_lt (size_at pages page) k) [
  | inl above ↦ absurd (true_false passes (whole_beyond pages page k above low))
  | inr below ↦ below
]

-- a number is the size where the extent of that size is eligible and no larger one is
pub size_is : (pages : ℕ → Option Mapping) (page n : ℕ) → n ≤ 3 → (0 < n → whole pages n page ≡ true)
    → ((k : ℕ) → n < k → k ≤ 3 → whole pages k page ≡ false) → size_at pages page ≡ n
size_is pages page n low passes misses =
    let small = size_small pages page in
    elim (cases_lt (size_at pages page) n) [
      | inl less ↦ absurd (true_false (passes (omega arith)) (whole_beyond pages page n less low))
      | inr from ↦ elim (cases_lt n (size_at pages page)) [
        | inl more ↦ absurd (true_false (whole_within pages page (size_at pages page) (omega arith) (omega arith))
            (misses (size_at pages page) more small))
        | inr to ↦ omega arith
      ]
    ]

-- pages of one tile have tiles of one size
pub size_alike : (pages : ℕ → Option Mapping) (page other : ℕ) → other / 8 ^ size_at pages page ≡ page / 8 ^ size_at pages page
    → size_at pages other ≡ size_at pages page
size_alike pages page other same =
    let n = size_at pages page in
    let low = size_small pages page in
    size_is pages other n low
    (λ positive. whole_alike pages n page other same ∙ whole_within pages page n positive (omega arith))
    (λ k more small. whole_alike pages k page other (coarser n k other page (omega arith) small same)
    ∙ whole_beyond pages page k more small)

-- ---- the tile of a page by its own mapping

-- the tile of this size of a page with this mapping
abbrev pub tile_by : ℕ → ℕ → Mapping → Tile
tile_by size page m =
    record {
      extent = record { size = size; first = page - page % 8 ^ size };
      frame = m.frame - page % 8 ^ size;
      rights = m.rights;
      dirty = m.dirty;
    }

pub record IsTileBy (pages : ℕ → Option Mapping) (page size : ℕ) (m : Mapping) : Type 0 where
  pub is : tile_of pages page ≡ Some (tile_by size page m)
  pub from_frame : page % 8 ^ size ≤ m.frame

by_head : (k page : ℕ) (m head : Mapping) → StartsBelow k page → m ≡ moved_by (page - extent_start k page) head
    → (tile_with k (extent_start k page) head ≡ tile_by k page m) × (page % 8 ^ k ≤ m.frame)
by_head k page m head starts e =
    let frames : m.frame ≡ head.frame + (page - extent_start k page) = ap (λ (n : Mapping). n.frame) e in
    let rights : m.rights ≡ head.rights = ap (λ (n : Mapping). n.rights) e in
    let flags : m.dirty ≡ head.dirty = ap (λ (n : Mapping). n.dirty) e in
    let first = starts.first in
    let within = starts.within in
    let frame : head.frame ≡ m.frame - page % 8 ^ k = omega arith in
    (cc, omega arith)

pub tile_by_own : (pages : ℕ → Option Mapping) (page : ℕ) (m : Mapping) → pages page ≡ Some m → IsTileBy pages page (size_at pages page) m
tile_by_own pages page m at =
    let k = size_at pages page in
    let tile = resident_tile pages page m at in
    let by = by_head k page m tile.has.head (starts_below k page tile.low)
    (same_Some m _ (sym at ∙ page_in pages k page page tile.has tile.low refl)) in
    record { is = tile.is ∙ ap Some by.0; from_frame = by.1 }

-- a page that isn't resident has no tile
pub tile_absent : (pages : ℕ → Option Mapping) (page : ℕ) → pages page ≡ None → tile_of pages page ≡ None
tile_absent pages page at = elim (tiles pages page) [
  | inl none ↦ none.is
  | inr tile ↦
      let zero_whole = smaller pages 0 (size_at pages page) page (omega arith) tile.low tile.has in
      absurd (none-some _ (sym at ∙ page_in pages 0 page page zero_whole (omega arith) refl))
]
