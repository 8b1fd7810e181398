use Rattle.std.proofs.Common.{◌∙◌, ap, ℕ, List, slice_index_or}
use Rattle.space_core.specs.contracts.table.PageTable.{the_view}
use Rattle.space_core.proofs.TableLemmas.{frame-there, rewritten_paged, rewritten_has, refills}
use Rattle.space_core.proofs.table.PageTable.read_copy.Goals as goal

pub set_copied-requires-clause-there : goal.set_copied-requires-clause-there
set_copied-requires-clause-there g c = frame-there (the_view c.self.inside) c.self.invariant _ _ (rw (← c.self.view_is) at c.requires.resident)

pub invariant_of-self : goal.invariant_of-self
invariant_of-self g c = c.self.invariant

pub invariant_of-self-2 : goal.invariant_of-self-2
invariant_of-self-2 g c =
    let has = rw (← c.self.view_is) at c.requires.resident in
    let at = c.self.invariant.found _ _ has in
    rw (c.set_copied.ensures at.frame at.is) (rewritten_paged (the_view c.self.inside) c.self.invariant _ _ _ has at.number_is)

pub returns-clause-table : goal.returns-clause-table
returns-clause-table g c =
    let has = rw (← c.self.view_is) at c.requires.resident in
    let at = c.self.invariant.found _ _ has in
    rw (← c.self.view_is, c.set_copied.ensures at.frame at.is)
    (refills (the_view c.self.inside) c.self.invariant _ _ _ has at.number_is)

pub returns-clause-read : goal.returns-clause-read
returns-clause-read g c = λ words tells known i.
    let has = rw (← c.self.view_is) at c.requires.resident in
    let at = c.self.invariant.found _ _ has in
    let copied = rw (known, ← c.deref.ensures) at (c.in_ok-copied.ensures.read tells) in
    rw (c.set_copied.ensures at.frame at.is)
    (rewritten_has (the_view c.self.inside) c.self.invariant _ _ _ has at.number_is i
    ∙ ap (λ (ws : List ℕ). slice_index_or ws i 0) copied)
