use Rattle.std.proofs.Common.{◌∙◌, sym}
use Rattle.space_core.specs.contracts.table.PageTable.{the_view}
use Rattle.space_core.proofs.TableLemmas.{frame-absent, frame-mapped}
use Rattle.space_core.proofs.table.PageTable.number.Goals as goal

pub returns-in_err-mapping-clause-number : goal.returns-in_err-mapping-clause-number
returns-in_err-mapping-clause-number c =
    rw (c.from_residual.ensures, ← c.self.view_is)
    (sym (frame-absent (the_view c.self.inside) _ (sym c.mapping.ensures.mapping ∙ c.in_err-mapping.was)))

pub returns-clause-number : goal.returns-clause-number
returns-clause-number c = rw (← c.self.view_is)
    (sym (frame-mapped (the_view c.self.inside) _ _ (sym c.mapping.ensures.mapping ∙ c.in_ok-mapping.was)))
