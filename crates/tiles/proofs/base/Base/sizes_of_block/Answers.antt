use Rattle.std.proofs.Common.{◌+◌, ◌*◌, sym, ap, ◌∙◌, arith}
use Rattle.pager_model.specs.SizeSets.{size_within}
use Rattle.tiles.specs.Resident.{mapping_at}
use Rattle.tiles.specs.Sized.{size_by}
use Rattle.tiles.specs.TableEntries.{entry_at, entry_size}
use Rattle.tiles.proofs.EntryTiles.{size_of_tile}
use Rattle.tiles.proofs.Largest.{size_small}
use Rattle.tiles.proofs.base.Base.sizes_of_block.Goals as goal

pub returns-clause-sizes : goal.returns-clause-sizes
returns-clause-sizes g c i low =
    let r = c.self.inside.map in
    let page = c.args.block * 512 + 8 * i in
    let size = size_of_tile r c.self.invariant.tiles page in
    c.levels_of_block.ensures.levels i low
    ∙ (c.levels_within.ensures (entry_size (entry_at r page)) (omega (arith, size, size_small (mapping_at r) page))
    ∙ (ap (size_within c.args.sizes) (sym size) ∙ ap (λ r. size_by c.args.sizes (mapping_at r) page) c.self.view_is))
