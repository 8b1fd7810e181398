use Rattle.std.proofs.Common.{◌∙◌, sym, ap, Option}
use Rattle.pager_model.specs.Frame.{Framed}
use Rattle.space_core.specs.Tables.{word_in_frame}
use Rattle.space_core.specs.contracts.table.PageTable.{the_view}
use Rattle.space_core.proofs.TableLemmas.{frame-there, word_in-found}
use Rattle.space_core.proofs.table.PageTable.word_by.Goals as goal

pub frame-requires : goal.frame-requires
frame-requires c = frame-there (the_view c.self.inside) c.self.invariant _ _ (rw (← c.self.view_is) at c.requires.resident.1)

pub returns : goal.returns
returns c = λ page there.
    let has = rw (← c.self.view_is) at there in
    rw (← c.self.view_is)
    (c.word.ensures ∙ sym (word_in-found _ _ _ _ has ∙ ap (λ (o : Option Framed). word_in_frame o c.args.index) c.frame.ensures))
