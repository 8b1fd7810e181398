use Rattle.std.proofs.Common.{option_map, ap, ◌∙◌}
use Rattle.tiles.specs.TableEntries.{mapping_of}
use Rattle.tiles.specs.contracts.base.Base.{the_view}
use Rattle.tiles.proofs.KeptPages.{mapping_is, found_fits}
use Rattle.tiles.proofs.base.Base.find.Goals as goal

pub returns-clause-mapping : goal.returns-clause-mapping
returns-clause-mapping g c =
    rw (← c.self.view_is) (ap (option_map (λ e. mapping_of e c.args.page)) c.lookup.ensures.entry
    ∙ mapping_is (the_view c.self.inside) c.args.page)

pub returns-clause-fits : goal.returns-clause-fits
returns-clause-fits g c = rw (← c.self.view_is)
    (found_fits (the_view c.self.inside) c.self.invariant c.args.page c.lookup.result c.lookup.ensures.entry)
