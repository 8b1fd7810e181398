use Rattle.std.proofs.Common.{sym, ◌∙◌, arith}
use Rattle.std.proofs.lemmas.Bool.{ltb-false}
use Rattle.tiles.proofs.PageChanges.{none_goes}
use Rattle.tiles.proofs.changes.Changes.takes_any.Goals as goal

pub returns-else-is_some : goal.returns-else-is_some
returns-else-is_some c = λ none.
    rw (← c.self.view_is)
    (none_goes c.self.inside.page c.self.inside.before c.self.inside.after (sym c.is_some.ensures ∙ c.if-is_some.false)
    (omega (arith, ltb-false 0 c.level.result none, c.level.ensures.level, c.size_of.ensures)))
