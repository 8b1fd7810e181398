use Rattle.space_core.specs.contracts.table.PageTable.{the_view}
use Rattle.space_core.proofs.TableLemmas.{next_some, next_none}
use Rattle.space_core.proofs.table.PageTable.first_resident.Goals as goal

pub returns-clause-some : goal.returns-clause-some
returns-clause-some c = rw (← c.self.view_is)
    (next_some (the_view c.self.inside) c.args.from c.args.end c.next_resident.result c.next_resident.ensures.some)

pub returns-clause-none : goal.returns-clause-none
returns-clause-none c = rw (← c.self.view_is)
    (next_none (the_view c.self.inside) c.args.from c.args.end c.next_resident.result c.next_resident.ensures.none)
