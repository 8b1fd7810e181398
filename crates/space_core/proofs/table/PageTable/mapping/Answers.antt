use Rattle.space_core.specs.contracts.table.PageTable.{the_view}
use Rattle.space_core.proofs.TableLemmas.{mapped_so, unmapped}
use Rattle.space_core.proofs.table.PageTable.mapping.Goals as goal

pub returns-clause-some : goal.returns-clause-some
returns-clause-some c = rw (← c.self.view_is) (mapped_so (the_view c.self.inside) c.args.page c.mapping.result c.mapping.ensures.mapping)

pub returns-clause-none : goal.returns-clause-none
returns-clause-none c = rw (← c.self.view_is) (unmapped (the_view c.self.inside) c.args.page c.mapping.result c.mapping.ensures.mapping)
