-- The tiles of some sizes are the parts, of the largest of them that fits, of the tiles of all four.
use Rattle.std.proofs.Common.{◌≡◌, ℕ, zero, suc, ◌+◌, ◌-◌, ◌*◌, ◌/◌, ◌^◌, ◌<◌, ◌≤◌, true, Option, Some, None, option_map, refl, sym, ap, inl, inr, ◌∙◌, arith}
use Rattle.std.specs.Option.{option_or}
use Rattle.std.proofs.lemmas.Bool.{cases_Bool, cases_eq, cond-true, cond-false, false≢true}
use Rattle.std.proofs.lemmas.Option.{same_Some, none-some}
use Rattle.pager_model.specs.declared.tile.Mapping.{Mapping}
use Rattle.pager_model.specs.declared.tile.Tile.{Tile}
use Rattle.pager_model.specs.Extents.{extent_start}
use Rattle.pager_model.specs.SizeSets.{SizeSet, has_size, size_within}
use Rattle.pager_model.specs.Tiles.{moved_by, tile_with, eligible_at, tile_of, size_at, largest_among, tile_in, is_that_tile, is_tile_in, part_round, cut_to}
use Rattle.pager_model.proofs.ExtentLemmas.{coarser, first_of_extent}
use Rattle.pager_model.proofs.SizeFloors.{within_has, within_skips, within_at_most}
use Rattle.pager_model.proofs.TileParts.{same_tile-true, same_tile-refl}
use Rattle.tiles.specs.Parts.{IsPart}
use Rattle.tiles.proofs.Eligible.{HasExtent, eligible_is, page_in, smaller, whole_none}
use Rattle.tiles.proofs.Largest.{tiles}
use Rattle.tiles.proofs.TileLaws.{tile_largest, largest_tile}

module _ (z : SizeSet) (pages : ℕ → Option Mapping) (page : ℕ) where
  abbrev among : ℕ → Option Tile
  among k = largest_among z pages k page

  -- a size that isn't eligible is passed over, whether it is one of them or not
  passed : (k : ℕ) → eligible_at pages (suc k) page ≡ None → among (suc k) ≡ among k
  passed k none = elim (cases_Bool (has_size z (suc k))) [
    | inl is ↦ cond-true _ _ _ is ∙ ap (λ o. option_or o (among k)) none
    | inr not ↦ cond-false _ _ _ not
  ]

  all_passed : (k : ℕ) → ((j : ℕ) → j ≤ k → eligible_at pages j page ≡ None) → among k ≡ None
  all_passed zero fails = fails 0 (omega arith)
  all_passed (suc k) fails = passed k (fails (suc k) (omega arith)) ∙ all_passed k (λ j low. fails j (omega arith))

  passed_to : (size k : ℕ) → size ≤ k → ((j : ℕ) → size < j → j ≤ k → eligible_at pages j page ≡ None) → among k ≡ among size
  passed_to size zero le fails = let same : 0 ≡ size = omega arith in ap among same
  passed_to size (suc k) le fails = elim (cases_eq (suc k) size) [
    | inl same ↦ ap among same
    | inr other ↦ passed k (fails (suc k) (omega arith) (omega arith))
        ∙ passed_to size k (omega arith) (λ j more low. fails j more (omega arith))
  ]

  -- where all sizes up to one are eligible, the largest of them is chosen
  chosen : (k : ℕ) → k ≤ 3 → HasExtent pages k page → among k ≡ eligible_at pages (size_within z k) page
  chosen zero low has = refl
  chosen (suc k) low has = elim (cases_Bool (has_size z (suc k))) [
    | inl is ↦
        cond-true _ _ _ is ∙ ap (λ o. option_or o (among k)) (eligible_is pages (suc k) page has)
        ∙ sym (eligible_is pages (suc k) page has) ∙ ap (λ n. eligible_at pages n page) (sym (within_has z (suc k) is))
    | inr not ↦
        cond-false _ _ _ not ∙ chosen k (omega arith) (smaller pages k (suc k) page (omega arith) low has)
        ∙ ap (λ n. eligible_at pages n page) (sym (within_skips z k not))
  ]

  -- the eligible extent of a smaller size is a part of the larger one
  part_is : (k size : ℕ) (has : HasExtent pages size page) → k ≤ size → size ≤ 3
      → eligible_at pages k page ≡ Some (part_round k page (tile_with size (extent_start size page) has.head))
  part_is k size has le low =
      let part = smaller pages k size page le low has in
      let first = extent_start k page in
      let joined : first / 8 ^ size ≡ page / 8 ^ size = coarser k size first page le low (first_of_extent k page) in
      let head : part.head ≡ moved_by (first - extent_start size page) has.head =
      same_Some _ _ (sym part.begins ∙ page_in pages size page first has low joined) in
      eligible_is pages k page part ∙ ap (λ m. Some (tile_with k first m)) head

  -- the law
  pub tile_in-cut : tile_in z pages page ≡ option_map (cut_to z page) (tile_of pages page)
  tile_in-cut = elim (tiles pages page) [
    | inl none ↦
        all_passed 3 (λ j low. whole_none pages j page (none.fails j low)) ∙ sym (ap (option_map (cut_to z page)) none.is)
    | inr tile ↦
        let size = size_at pages page in
        passed_to size 3 tile.low (λ j more low. whole_none pages j page (tile.larger j more low))
        ∙ chosen size tile.low tile.has
        ∙ part_is (size_within z size) size tile.has (within_at_most z size) tile.low
        ∙ sym (ap (option_map (cut_to z page)) tile.is)
  ]

-- ---- so the tiles by some sizes are these parts

whole_of : (z : SizeSet) (page : ℕ) (o : Option Tile) (t : Tile) → option_map (cut_to z page) o ≡ Some t
    → (u : Tile) × (o ≡ Some u) × (cut_to z page u ≡ t)
whole_of z page None t is = absurd (none-some t is)
whole_of z page (Some u) t is = (u, refl, same_Some (cut_to z page u) t is)

part_from : (z : SizeSet) (pages : ℕ → Option Mapping) (page : ℕ) (t : Tile) → tile_in z pages page ≡ Some t → IsPart z pages t
part_from z pages page t is =
    let found = whole_of z page (tile_of pages page) t (sym (tile_in-cut z pages page) ∙ is) in
    let largest = tile_largest pages page found.0 found.1 in
    record { page = page; whole = found.0; tile = largest.0; has = largest.1; is = found.2 }

-- each such part is the tile of its first page
tile_of_part : (z : SizeSet) (pages : ℕ → Option Mapping) (t : Tile) → IsPart z pages t → tile_in z pages t.extent.first ≡ Some t
tile_of_part z pages t part =
    let u = part.whole in
    let k = u.extent.size in
    let n = size_within z k in
    let first = extent_start n part.page in
    let begins : first ≡ t.extent.first = ap (λ (v : Tile). v.extent.first) part.is in
    let joined : first / 8 ^ k ≡ part.page / 8 ^ k = coarser n k first part.page (within_at_most z k) part.tile.extent.0
    (first_of_extent n part.page) in
    let tile : tile_of pages first ≡ Some u = largest_tile pages first u part.tile (ap (λ q. q * 8 ^ k) joined ∙ part.has) in
    let own : extent_start n first ≡ first = ap (λ q. q * 8 ^ n) (first_of_extent n part.page) in
    let same : part_round n first u ≡ part_round n part.page u = ap
    (λ (m : ℕ). let v : Tile = record {
      extent = record { size = n; first = m };
      frame = u.frame + (m - u.extent.first);
      rights = u.rights;
      dirty = u.dirty;
    } in
    v) own in
    ap (tile_in z pages) (sym begins) ∙ tile_in-cut z pages first ∙ ap (option_map (cut_to z first)) tile ∙ ap Some (same ∙ part.is)

pub part_is_tile : (z : SizeSet) (pages : ℕ → Option Mapping) (t : Tile) → IsPart z pages t → is_tile_in z pages t ≡ true
part_is_tile z pages t part = ap (is_that_tile t) (tile_of_part z pages t part) ∙ same_tile-refl t

that_tile : (t : Tile) (o : Option Tile) → is_that_tile t o ≡ true → o ≡ Some t
that_tile t None is = absurd (false≢true is)
that_tile t (Some u) is = ap Some (sym (same_tile-true t u is))

pub tile_is_part : (z : SizeSet) (pages : ℕ → Option Mapping) (t : Tile) → is_tile_in z pages t ≡ true → IsPart z pages t
tile_is_part z pages t is = part_from z pages t.extent.first t (that_tile t (tile_in z pages t.extent.first) is)
