use Rattle.frame_table.proofs.Moves.{IsTable-counted, IsTable-dropped}
use Rattle.frame_table.proofs.table.FrameTable.drop_held.Goals as goal

pub invariant_of-self : goal.invariant_of-self
invariant_of-self c =
    let st = c.self.inside.pool in
    let out = c.self.inside.out.items in
    rw c.drop_held.ensures.dropped (IsTable-counted out _ (IsTable-dropped out st c.args.processor c.self.invariant))
