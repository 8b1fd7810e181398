use Rattle.std.proofs.Common.{sym}
use Rattle.frame_table.proofs.Moves.{IsTable-given}
use Rattle.frame_table.proofs.table.FrameTable.give.Goals as goal

pub invariant_of-self : goal.invariant_of-self
invariant_of-self c =
    let out = c.self.inside.out.items in
    let is = sym c.in-Some.ensures in
    rw (c.give.ensures.given, c.take.ensures.after)
    (IsTable-given out c.self.inside.pool c.args.space c.args.page c.in-Some.number c.self.invariant is)
