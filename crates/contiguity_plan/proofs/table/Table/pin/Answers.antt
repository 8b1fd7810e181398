use Rattle.std.proofs.Common.{refl}
use Rattle.contiguity_plan.proofs.RightTables.{AreRight-pinned}
use Rattle.contiguity_plan.proofs.table.Table.pin.Goals as goal

pub returns-clause-right : goal.returns-clause-right
returns-clause-right c = λ frames processors st sound right.
    AreRight-pinned st c.args.self.now.uses.items c.args.self.now.held.items c.args.self.now.places.items right sound.laid
    c.args.space c.args.first c.args.count c.args.wired _ c.pin_uses.ensures.long c.pin_uses.ensures.each
