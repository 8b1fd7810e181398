use Rattle.std.proofs.Common.{arith, refl}
use Rattle.space_core.specs.contracts.table.PageTable.{the_view}
use Rattle.space_core.proofs.TableLemmas.{frame-there, rewritten_paged, sets_word}
use Rattle.space_core.proofs.table.PageTable.write_word_by.Goals as goal

pub set_word-requires-clause-there : goal.set_word-requires-clause-there
set_word-requires-clause-there c = frame-there (the_view c.self.inside) c.self.invariant _ _ (rw (← c.self.view_is) at c.requires.resident.1)

pub invariant_of-self : goal.invariant_of-self
invariant_of-self c =
    let has = rw (← c.self.view_is) at c.requires.resident.1 in
    let at = c.self.invariant.found _ _ has in
    rw (c.set_word.ensures.written at.frame at.is) (rewritten_paged (the_view c.self.inside) c.self.invariant _ _ _ has at.number_is)

pub returns : goal.returns
returns c = λ page there.
    let has = rw (← c.self.view_is) at there in
    let at = c.self.invariant.found _ _ has in
    rw (← c.self.view_is, c.set_word.ensures.written at.frame at.is)
    (sets_word (the_view c.self.inside) c.self.invariant _ _ _ has at.number_is _ _ at.frame at.is refl
    (omega (arith, c.set_word.ensures.count at.frame at.is, c.requires.index)))
