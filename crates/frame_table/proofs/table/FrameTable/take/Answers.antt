use Rattle.std.proofs.Common.{sym, ◌∙◌}
use Rattle.pager_model.proofs.Options.{none_from_is_some}
use Rattle.frame_table.proofs.Moves.{IsTable-taken}
use Rattle.frame_table.proofs.table.FrameTable.take.Goals as goal

pub invariant_of-self : goal.invariant_of-self
invariant_of-self c =
    let st = c.self.inside.pool in
    let t = c.in-Ok.ensures.taken in
    let none = sym c.frame_of.ensures ∙ none_from_is_some c.frame_of.result (sym c.is_some.ensures ∙ c.if-is_some.false) in
    rw (c.put_out.ensures.put, t.2)
    (IsTable-taken c.self.inside.out.items st c.args.space c.args.page c.args.want.now t.0 c.in-Ok.frame c.self.invariant none t.1 t.3)
