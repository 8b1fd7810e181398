use Rattle.std.proofs.Common.{sym, ap, ◌∙◌}
use Rattle.pager_model.specs.Layouts.{Layout, covering}
use Rattle.frame_pool.proofs.MappedLooks.{covering-looked, covering-not_looked}
use Rattle.frame_pool.proofs.reserved.Reserved.covering.Goals as goal

pub returns-in_err-id : goal.returns-in_err-id
returns-in_err-id c =
    let inside = c.self.inside in
    let was = c.self.invariant in
    let none = covering-not_looked inside.map inside.reservations.records c.args.space c.args.page was.mapped c.requires.few c.requires.page was.laid.placed c.in_err-id.ensures in
    c.from_residual.ensures ∙ sym none ∙ ap (λ (l : Layout). covering c.args.space c.args.page l.records) c.self.view_is

pub returns : goal.returns
returns c =
    let inside = c.self.inside in
    let was = c.self.invariant in
    let found = c.in_ok-id.ensures in
    let is = covering-looked inside.map inside.reservations.records c.args.space c.args.page was.mapped c.requires.few c.requires.page found.0 c.in_ok-id.id was.laid.one_cover found.1 found.2 in
    c.get.ensures.record ∙ is ∙ ap (λ (l : Layout). covering c.args.space c.args.page l.records) c.self.view_is
