use Rattle.std.proofs.Common.{false}
use Rattle.space_core.specs.contracts.table.PageTable.{the_view}
use Rattle.space_core.proofs.TableLemmas.{flagged_paged, cleans}
use Rattle.space_core.proofs.table.PageTable.set_clean.Goals as goal

pub invariant_of-self : goal.invariant_of-self
invariant_of-self c = flagged_paged (the_view c.self.inside) c.self.invariant c.args.page false _ c.after_dirty-changes.ensures.maps

pub returns-clause-cleans : goal.returns-clause-cleans
returns-clause-cleans c = rw (← c.self.view_is) (cleans (the_view c.self.inside) c.args.page _ c.after_dirty-changes.ensures.maps)

pub returns-clause-moves : goal.returns-clause-moves
returns-clause-moves c = rw (← c.self.view_is, c.moves.ensures) (c.after_dirty-changes.ensures.changes.moves_in c.self.inside.sizes)
