use Rattle.tiles.specs.contracts.base.Base.{the_view}
use Rattle.tiles.proofs.KeptPages.{next_tile, no_next}
use Rattle.tiles.proofs.base.Base.find_next.Goals as goal

pub returns-clause-some : goal.returns-clause-some
returns-clause-some g c = rw (← c.self.view_is)
    (next_tile (the_view c.self.inside) c.self.invariant c.args.from c.args.end c.next.result c.next.ensures.some)

pub returns-clause-none : goal.returns-clause-none
returns-clause-none g c = rw (← c.self.view_is) (no_next (the_view c.self.inside) c.args.from c.args.end c.next.result c.next.ensures.none)
