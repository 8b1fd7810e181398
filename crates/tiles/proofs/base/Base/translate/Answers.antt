use Rattle.std.proofs.Common.{Some, option_map, ap, sym, ◌∙◌}
use Rattle.pager_model.specs.Tiles.{cut_to}
use Rattle.tiles.specs.Resident.{mapping_at}
use Rattle.tiles.specs.declared.base.Translation.{Translation}
use Rattle.tiles.proofs.CutTiles.{tile_in-cut}
use Rattle.tiles.proofs.base.Base.translate.Goals as goal

pub returns-in_err-entry-clause-tile : goal.returns-in_err-entry-clause-tile
returns-in_err-entry-clause-tile c =
    ap (option_map (λ (t : Translation). t.tile)) c.from_residual.ensures
    ∙ sym (tile_in-cut c.args.sizes (mapping_at c.args.self.now) c.args.page
    ∙ ap (option_map (cut_to c.args.sizes c.args.page)) (sym c.in_err-entry.ensures.tile))

pub returns-clause-tile : goal.returns-clause-tile
returns-clause-tile c =
    ap Some c.cut_to.ensures ∙ ap (λ t. Some (cut_to c.args.sizes c.args.page t)) c.tile.ensures
    ∙ sym (tile_in-cut c.args.sizes (mapping_at c.args.self.now) c.args.page
    ∙ ap (option_map (cut_to c.args.sizes c.args.page)) (sym c.in_ok-entry.ensures.tile))
