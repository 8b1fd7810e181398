use Rattle.std.proofs.Common.{refl}
use Rattle.contiguity_plan.proofs.RightTables.{AreRight-as, AreRight-dropped}
use Rattle.contiguity_plan.proofs.table.Table.drop_held.Goals as goal

pub returns-clause-right : goal.returns-clause-right
returns-clause-right c = λ st right.
    AreRight-as _ _ _ _ _ _ _ refl c.set_hand.ensures refl
    (AreRight-dropped st c.args.self.now.uses.items c.args.self.now.held.items c.args.self.now.places.items right c.args.processor)
