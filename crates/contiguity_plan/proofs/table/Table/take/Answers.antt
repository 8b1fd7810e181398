use Rattle.std.proofs.Common.{refl}
use Rattle.contiguity_plan.proofs.RightTables.{AreRight-as, AreRight-take}
use Rattle.contiguity_plan.proofs.table.Table.take.Goals as goal

pub returns-clause-right : goal.returns-clause-right
returns-clause-right c = λ frames processors st sound right none takes.
    AreRight-as _ _ _ _ _ _ _ c.set_use.ensures refl refl
    (AreRight-take st c.args.self.now.uses.items c.args.self.now.held.items c.args.self.now.places.items right frames processors sound
    c.args.page.space c.args.page.page c.args.frame c.args.want _ none c.in_ok-insert.ensures.inserted takes)
