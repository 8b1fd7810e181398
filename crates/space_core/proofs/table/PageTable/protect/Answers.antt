use Rattle.space_core.proofs.TableLemmas.{protected_paged, protects_range}
use Rattle.space_core.specs.contracts.table.PageTable.{the_view}
use Rattle.space_core.proofs.table.PageTable.protect.Goals as goal

pub invariant_of-self : goal.invariant_of-self
invariant_of-self c =
    protected_paged (the_view c.self.inside) c.args.first c.args.length c.args.rights c.set.new.self c.after_rights.new.base
    (record { set = c.set.ensures; protects = c.after_rights.ensures.protects }) c.self.invariant

pub returns-clause-protects : goal.returns-clause-protects
returns-clause-protects c =
    rw (← c.self.view_is)
    (protects_range (the_view c.self.inside) c.args.first c.args.length c.args.rights c.set.new.self c.after_rights.new.base
    (record { set = c.set.ensures; protects = c.after_rights.ensures.protects }))

pub returns-clause-moves : goal.returns-clause-moves
returns-clause-moves c = rw (← c.self.view_is) c.after_rights.ensures.moves
