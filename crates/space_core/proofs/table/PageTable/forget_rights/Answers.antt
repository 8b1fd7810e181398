use Rattle.std.proofs.Common.{None}
use Rattle.space_core.proofs.TableLemmas.{forgets, owning_paged}
use Rattle.space_core.specs.contracts.table.PageTable.{the_view}
use Rattle.space_core.proofs.table.PageTable.forget_rights.Goals as goal

pub invariant_of-self : goal.invariant_of-self
invariant_of-self c = owning_paged (the_view c.self.inside) c.args.first c.args.length None c.set.new.self c.set.ensures c.self.invariant

pub returns : goal.returns
returns c = rw (← c.self.view_is) (forgets (the_view c.self.inside) c.args.first c.args.length c.set.new.self c.set.ensures)
