use Rattle.std.proofs.Common.{option_map, ap, sym, ◌∙◌}
use Rattle.tiles.specs.TableEntries.{mapping_of, tile_of_entry}
use Rattle.tiles.specs.contracts.base.Base.{the_view}
use Rattle.tiles.proofs.EntryTiles.{tile_is}
use Rattle.tiles.proofs.KeptPages.{mapping_is, found_fits}
use Rattle.tiles.proofs.base.Base.lookup.Goals as goal

pub returns-clause-mapping : goal.returns-clause-mapping
returns-clause-mapping c =
    rw (← c.self.view_is) (ap (option_map (λ e. mapping_of e c.args.page)) c.lookup.ensures
    ∙ mapping_is (the_view c.self.inside) c.args.page)

pub returns-clause-tile : goal.returns-clause-tile
returns-clause-tile c =
    rw (← c.self.view_is) (ap (option_map tile_of_entry) c.lookup.ensures
    ∙ sym (tile_is (the_view c.self.inside) c.self.invariant.tiles c.args.page))

pub returns-clause-fits : goal.returns-clause-fits
returns-clause-fits c = rw (← c.self.view_is)
    (found_fits (the_view c.self.inside) c.self.invariant c.args.page c.lookup.result c.lookup.ensures)
