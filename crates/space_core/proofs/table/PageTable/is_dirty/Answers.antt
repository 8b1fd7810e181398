use Rattle.std.proofs.Common.{◌∙◌, sym}
use Rattle.std.proofs.lemmas.Option.{none-some}
use Rattle.space_core.specs.contracts.table.PageTable.{the_view}
use Rattle.space_core.proofs.TableLemmas.{dirty_in-absent, dirty-mapped, frame-absent, frame-mapped}
use Rattle.space_core.proofs.table.PageTable.is_dirty.Goals as goal

pub returns-in-Some-clause-dirty : goal.returns-in-Some-clause-dirty
returns-in-Some-clause-dirty c = rw (← c.self.view_is)
    (sym (dirty-mapped (the_view c.self.inside) _ _ (sym c.mapping.ensures.mapping ∙ c.in-Some.is)))

pub returns-in-Some-clause-resident : goal.returns-in-Some-clause-resident
returns-in-Some-clause-resident c =
    rw (← c.self.view_is)
    (λ dirty none. none-some _ (sym none ∙ frame-mapped (the_view c.self.inside) _ _ (sym c.mapping.ensures.mapping ∙ c.in-Some.is)))

pub returns-in-None-clause-dirty : goal.returns-in-None-clause-dirty
returns-in-None-clause-dirty c =
    rw (← c.self.view_is)
    (sym (dirty_in-absent (the_view c.self.inside) _ (frame-absent (the_view c.self.inside) _
    (sym c.mapping.ensures.mapping ∙ c.in-None.is))))
