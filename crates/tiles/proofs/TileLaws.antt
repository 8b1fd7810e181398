-- What a tile is.
use Rattle.std.proofs.Common.{◌≡◌, ℕ, ◌+◌, ◌*◌, ◌/◌, ◌%◌, ◌^◌, ◌<◌, ◌≤◌, Option, Some, refl, sym, ap, inl, inr, ◌∙◌, arith, subst}
use Rattle.std.proofs.Math.Nat.{mul-mod_left}
use Rattle.std.proofs.lemmas.Option.{none-some, same_Some}
use Rattle.pager_model.specs.declared.tile.Mapping.{Mapping}
use Rattle.pager_model.specs.declared.tile.Tile.{Tile}
use Rattle.pager_model.specs.Extents.{extent_start}
use Rattle.pager_model.specs.Tiles.{IsTile, tile_with, eligible_with, eligible_at, tile_of, size_at}
use Rattle.pager_model.proofs.ExtentLemmas.{coarser, first_of_extent}
use Rattle.tiles.proofs.Eligible.{HasExtent, has_whole, whole_none, none_whole, whole_alike, eligible_is, eligible_has, page_in}
use Rattle.tiles.proofs.Extents.{starts_below}
use Rattle.tiles.proofs.Largest.{HasTile, tiles, resident_tile, size_is}

eligible_alike : (pages : ℕ → Option Mapping) (k page other : ℕ) → other / 8 ^ k ≡ page / 8 ^ k
    → eligible_at pages k other ≡ eligible_at pages k page
eligible_alike pages k page other same = ap (λ n. eligible_with pages k (n * 8 ^ k) (pages (n * 8 ^ k))) same

tile_is_largest : (pages : ℕ → Option Mapping) (page size : ℕ) (tile : HasTile pages page size)
    → IsTile pages (tile_with size (extent_start size page) tile.has.head)
tile_is_largest pages page size tile =
    let first = extent_start size page in
    let same : first / 8 ^ size ≡ page / 8 ^ size = first_of_extent size page in
    record {
      extent = (tile.low, mul-mod_left (page / 8 ^ size) (8 ^ size));
      eligible = eligible_alike pages size page first same ∙ eligible_is pages size page tile.has;
      largest = λ k more low. whole_none pages k first (whole_alike pages k page first (coarser size k first page (omega arith) low same)
          ∙ tile.larger k more low);
    }

-- the tile of a page is a largest eligible extent round it
pub tile_largest : (pages : ℕ → Option Mapping) (page : ℕ) (t : Tile) → tile_of pages page ≡ Some t
    → IsTile pages t × (extent_start t.extent.size page ≡ t.extent.first)
tile_largest pages page t at = elim (tiles pages page) [
  | inl none ↦ absurd (none-some t (sym none.is ∙ at))
  | inr tile ↦
      let same : tile_with (size_at pages page) (extent_start (size_at pages page) page) tile.has.head ≡ t =
      same_Some _ t (sym tile.is ∙ at) in
      subst (λ (u : Tile). IsTile pages u × (extent_start u.extent.size page ≡ u.extent.first)) same
      (tile_is_largest pages page (size_at pages page) tile, refl)
]

-- and each such extent is the tile of its pages
pub largest_tile : (pages : ℕ → Option Mapping) (page : ℕ) (t : Tile) → IsTile pages t → extent_start t.extent.size page ≡ t.extent.first
    → tile_of pages page ≡ Some t
largest_tile pages page t is starts =
    let s = t.extent.size in
    let low : s ≤ 3 = is.extent.0 in
    let same : t.extent.first / 8 ^ s ≡ page / 8 ^ s = ap (λ n. n / 8 ^ s) (sym starts) ∙ first_of_extent s page in
    let here : eligible_at pages s page ≡ Some t = sym (eligible_alike pages s page t.extent.first same) ∙ is.eligible in
    let has = eligible_has pages s page t here in
    let size : size_at pages page ≡ s = size_is pages page s low (λ positive. has_whole pages s page has) (λ k more small.
    sym (whole_alike pages k page t.extent.first (coarser s k t.extent.first page (omega arith) small same))
    ∙ none_whole pages k t.extent.first (is.largest k more small)) in
    let tile = resident_tile pages page _ (page_in pages s page page has low refl) in
    tile.is ∙ sym (eligible_is pages (size_at pages page) page tile.has) ∙ ap (λ k. eligible_at pages k page) size ∙ here

-- so tiles with a page in common are one
pub tiles_apart : (pages : ℕ → Option Mapping) (page : ℕ) (t u : Tile) → IsTile pages t → IsTile pages u
    → extent_start t.extent.size page ≡ t.extent.first → extent_start u.extent.size page ≡ u.extent.first → t ≡ u
tiles_apart pages page t u is_t is_u of_t of_u = same_Some t u (sym (largest_tile pages page t is_t of_t)
    ∙ largest_tile pages page u is_u of_u)

-- ---- the pages of a tile

module _ (pages : ℕ → Option Mapping) (t : Tile) (is : IsTile pages t) where
  abbrev size : ℕ
  size = t.extent.size

  has : HasExtent pages size t.extent.first
  has = eligible_has pages size t.extent.first t is.eligible

  start_is : extent_start size t.extent.first ≡ t.extent.first
  start_is = let starts = starts_below size t.extent.first is.extent.0 in omega (arith, starts.first, is.extent.1)

  same : t ≡ tile_with size (extent_start size t.extent.first) has.head
  same = same_Some t _ (sym is.eligible ∙ eligible_is pages size t.extent.first has)

  pub tile_aligned : t.frame % 8 ^ t.extent.size ≡ 0
  tile_aligned = ap (λ (u : Tile). u.frame % 8 ^ size) same ∙ has.is.aligned

  pub tile_uniform : (region : ℕ) × ((i : ℕ) → i < 8 ^ t.extent.size → pages (t.extent.first + i) ≡ Some
      (record { frame = t.frame + i; region = region; rights = t.rights; dirty = t.dirty }))
  tile_uniform = (
    has.head.region,
    λ i within. ap (λ n. pages (n + i)) (sym start_is) ∙ has.is.uniform i within
        ∙ ap (λ (u : Tile). let m : Mapping = record {
          frame = u.frame + i;
          region = has.head.region;
          rights = u.rights;
          dirty = u.dirty;
        } in Some m) (sym same),
  )
