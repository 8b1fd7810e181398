-- Which tiles stay as they are where pages change.
use Rattle.std.proofs.Common.{◌≡◌, ◌≢◌, ℕ, ◌-◌, ◌*◌, ◌/◌, ◌%◌, ◌^◌, ◌<◌, ◌≤◌, true, false, max, Option, Some, None, refl, sym, ap, ◌∙◌, arith}
use Rattle.std.proofs.Math.Nat.{mul-mod_left}
use Rattle.std.proofs.lemmas.Bool.{true≢false}
use Rattle.std.proofs.lemmas.Bool.Decides.{nat_tests}
use Rattle.pager_model.specs.Bounds.{space_pages}
use Rattle.pager_model.specs.declared.page_range.PageRange.{PageRange}
use Rattle.pager_model.specs.declared.tile.Mapping.{Mapping}
use Rattle.pager_model.specs.Extents.{extent_start}
use Rattle.pager_model.specs.Regions.{in_range}
use Rattle.pager_model.specs.SizeSets.{SizeSet}
use Rattle.pager_model.specs.Tiles.{is_that_tile, size_at, tile_in, tile_of}
use Rattle.pager_model.proofs.ExtentLemmas.{coarser, eight_pos, extent_within, range_of_extent}
use Rattle.tiles.specs.Beside.{OthersSame}
use Rattle.tiles.specs.Blocks.{OutsideSame}
use Rattle.tiles.specs.Sized.{KeepsOutsideIn, size_by}
use Rattle.tiles.specs.Touched.{IsInSpace, extent_range}
use Rattle.tiles.proofs.Extents.{starts_below}
use Rattle.tiles.proofs.Largest.{tile_absent, tile_by, tile_by_own}
use Rattle.tiles.proofs.SizeChanges.{beside_kept, others_back}
use Rattle.tiles.proofs.SizedTiles.{by_absent, by_small, local_by, tile_absent_in, tile_in_same}

-- a page has its tile as before, where its mapping and its tile's size are as before
pub tile_same : (old new : ℕ → Option Mapping) (q : ℕ) → new q ≡ old q → size_at new q ≡ size_at old q → tile_of new q ≡ tile_of old q
tile_same old new q same size = by_own (old q) refl
  where
    by_own : (o : Option Mapping) → old q ≡ o → tile_of new q ≡ tile_of old q
    by_own None at = tile_absent new q (same ∙ at) ∙ sym (tile_absent old q at)
    by_own (Some m) at = (tile_by_own new q m (same ∙ at)).is ∙ ap (λ k. Some (tile_by k q m)) size ∙ sym (tile_by_own old q m at).is

-- the pages of an extent, by their number
pub range_is : (page level over pages : ℕ) → level ≤ 3 → level ≡ over → pages ≡ 8 ^ level
    → record { first = page - page % pages; length = pages } ≡ extent_range over page
range_is page level over pages low is long =
    ap (λ n. let r : PageRange = record { first = page - page % n; length = n } in r) long
    ∙ ap (λ n. let r : PageRange = record { first = n; length = 8 ^ level } in r) (sym (starts_below level page low).first)
    ∙ ap (λ k. extent_range k page) is

outside_apart : (n w q : ℕ) → 0 < w → in_range (n * w) w q ≡ false → q / w ≢ n
outside_apart n w q wide outside e =
    let at = range_of_extent n w q wide e in
    let inside : in_range (n * w) w q ≡ true = grind (arith, nat_tests) in
    true≢false (sym inside ∙ outside)

module _ (z : SizeSet) (old new : ℕ → Option Mapping) where
  -- ---- one page changed

  module _ (page : ℕ) (others : OthersSame page old new) where
    -- the tiles beside the larger of the page's two tiles stay
    tile_beside : (over q : ℕ) → size_by z old page ≤ over → size_by z new page ≤ over → over ≤ 3 → q / 8 ^ over ≢ page / 8 ^ over
        → tile_in z new q ≡ tile_in z old q
    tile_beside over q before after low apart =
        let no_more = beside_kept z old new page others q (λ same. apart (coarser (size_by z new page) over q page after low same)) in
        let no_less = beside_kept z new old page (others_back old new page others) q
        (λ same. apart (coarser (size_by z old page) over q page before low same)) in
        tile_in_same z old new q (others q (λ e. apart (ap (λ n. n / 8 ^ over) e))) (omega (arith, no_more, no_less))

    pub outside_larger : KeepsOutsideIn z (extent_range (max (size_by z old page) (size_by z new page)) page) old new
    outside_larger t tile out =
        let over = max (size_by z old page) (size_by z new page) in
        let apart = outside_apart (page / 8 ^ over) (8 ^ over) t.extent.first (eight_pos over) out in
        ap (is_that_tile t) (tile_beside over t.extent.first (omega arith) (omega arith)
        (omega (arith, by_small z old page, by_small z new page)) apart) ∙ tile

    -- and all of them do where the page wasn't resident and made no larger tile
    pub outside_none : (range : PageRange) → old page ≡ None → size_by z new page ≡ 0 → KeepsOutsideIn z range old new
    outside_none range absent small t tile out =
        let none : is_that_tile t (tile_in z old page) ≡ false = ap (is_that_tile t) (tile_absent_in z old page absent) in
        let apart : t.extent.first / 8 ^ 0 ≢ page / 8 ^ 0 = λ e. true≢false
        (sym tile ∙ ap (λ q. is_that_tile t (tile_in z old q)) {x = t.extent.first} {y = page} (omega arith) ∙ none) in
        ap (is_that_tile t) (tile_beside 0 t.extent.first (omega (arith, by_absent z old page absent)) (omega (arith, small))
        (omega arith) apart) ∙ tile

  -- ---- a block changed

  pub outside_block : (block : ℕ) (range : PageRange) → OutsideSame block old new → range ≡ record { first = block * 512; length = 512 }
      → KeepsOutsideIn z range old new
  outside_block block range outside is t tile out =
      let q = t.extent.first in
      let apart = outside_apart block 512 q (omega arith) (ap (λ (r : PageRange). in_range r.first r.length q) (sym is) ∙ out) in
      ap (is_that_tile t) (tile_in_same z old new q (outside q apart)
      (local_by z old new q (λ p joined. outside p (λ e. apart (sym joined ∙ e))))) ∙ tile

pub extent_in_space : (size page : ℕ) → size ≤ 3 → page < space_pages → IsInSpace (extent_range size page)
extent_in_space size page low in_space =
    let starts = starts_below size page low in
    let within = extent_within size (extent_start size page) 2048 low (mul-mod_left (page / 8 ^ size) (8 ^ size))
    (omega (arith, starts.first)) in
    omega (arith, within)
