use Rattle.std.proofs.Common.{Some, sym, ap, ◌∙◌}
use Rattle.tiles.specs.TableEntries.{entry_at}
use Rattle.tiles.proofs.EntryChanges.{entry_is, page_none}
use Rattle.tiles.proofs.mixed.Mixed.lookup.Goals as goal

pub returns-in_err-row-clause-entry : goal.returns-in_err-row-clause-entry
returns-in_err-row-clause-entry g c =
    c.from_residual.ensures ∙ (sym (page_none c.self.inside.tree c.args.page c.in_err-row.ensures.none).1
    ∙ ap (λ t. entry_at t c.args.page) c.self.view_is)

pub returns-clause-entry : goal.returns-clause-entry
returns-clause-entry g c =
    let row = c.in_ok-row.row in
    let is = c.in_ok-row.ensures.some in
    ap Some c.round.ensures
    ∙ (sym (entry_is c.self.inside.tree row.size c.args.page row.value c.self.invariant.0 is.low is.is)
    ∙ ap (λ t. entry_at t c.args.page) c.self.view_is)
