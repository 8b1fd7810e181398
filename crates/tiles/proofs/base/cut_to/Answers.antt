use Rattle.std.proofs.Common.{◌≡◌, ℕ, ◌+◌, ◌*◌, ◌/◌, ◌^◌, ◌<◌, ◌≤◌, ap, arith}
use Rattle.pager_model.specs.Extents.{extent_start}
use Rattle.pager_model.specs.declared.tile.Tile.{Tile}
use Rattle.pager_model.proofs.ExtentLemmas.{coarser, eight_pos, first_of_extent, range_of_extent}
use Rattle.pager_model.proofs.SizeFloors.{within_at_most}
use Rattle.tiles.specs.Changes.{IsRound}
use Rattle.tiles.proofs.base.cut_to.Goals as goal
use Rattle.tiles.proofs.base.cut_to.Goals.{After-pages-pages}

-- the extent of a smaller size round the page lies in the tile
lies_in : (size page : ℕ) (t : Tile) → IsRound page t → size ≤ t.extent.size
    → (t.extent.first ≤ extent_start size page) × (extent_start size page < t.extent.first + 8 ^ t.extent.size)
lies_in size page t round small =
    let wide = t.extent.size in
    let within = range_of_extent (page / 8 ^ wide) (8 ^ wide) (extent_start size page) (eight_pos wide)
    (coarser size wide (extent_start size page) page small round.low (first_of_extent size page)) in
    (omega (arith, within.0, round.starts), omega (arith, within.1, round.starts))

small : (c : After-pages-pages) → c.within-size.result ≤ c.args.tile.now.extent.size
small c = omega (arith, c.within-size.ensures, within_at_most c.args.sizes c.args.tile.now.extent.size)

starts : (c : After-pages-pages) → c.args.page / c.pages-pages.result * c.pages-pages.result ≡ extent_start c.within-size.result c.args.page
starts c = ap (λ n. c.args.page / n * n) c.pages-pages.ensures

pub part_from-requires-clause-from : goal.part_from-requires-clause-from
part_from-requires-clause-from c =
    omega (arith, starts c, (lies_in c.within-size.result c.args.page c.args.tile.now c.requires (small c)).0)

pub part_from-requires-clause-fits : goal.part_from-requires-clause-fits
part_from-requires-clause-fits c =
    omega (arith, starts c, (lies_in c.within-size.result c.args.page c.args.tile.now c.requires (small c)).1, c.requires.fits)
