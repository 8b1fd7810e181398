use Rattle.std.proofs.lemmas.Result.{IfOk-weaker}
use Rattle.space_core.specs.Pages.{HasWords}
use Rattle.space_core.specs.contracts.table.PageTable.{the_view}
use Rattle.space_core.proofs.TableLemmas.{frame-there, has_words}
use Rattle.space_core.proofs.table.PageTable.write_copy.Goals as goal

pub frame-frame-requires : goal.frame-frame-requires
frame-frame-requires g c = frame-there (the_view c.self.inside) c.self.invariant _ _ (rw (← c.self.view_is) at c.requires.resident)

pub returns-clause-wrote : goal.returns-clause-wrote
returns-clause-wrote g c =
    let has = rw (← c.self.view_is) at c.requires.resident in
    let words : HasWords c.args.self.now c.args.page c.words.result.now =
    rw (← c.self.view_is, c.words.ensures.words) (has_words (the_view c.self.inside) _ _ _ has c.frame-frame.ensures) in
    IfOk-weaker c.write.result _ _ (λ _ wrote. (c.words.result.now, words, wrote.0)) c.write.ensures.wrote
