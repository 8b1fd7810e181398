use Rattle.frame_table.proofs.Moves.{IsTable-tried}
use Rattle.frame_table.proofs.table.FrameTable.pin.Goals as goal

pub invariant_of-self : goal.invariant_of-self
invariant_of-self c =
    IsTable-tried c.self.inside.out.items c.self.inside.pool _ c.args.space c.args.first c.args.length c.args.wired c.pin.result c.self.invariant
    c.pin.ensures.kept c.pin.ensures.pinned
