use Rattle.std.proofs.Common.{sym}
use Rattle.contiguity_plan.proofs.RightTables.{AreRight-as, AreRight-given}
use Rattle.contiguity_plan.proofs.table.Table.give.Goals as goal

pub returns-in-Some-clause-right : goal.returns-in-Some-clause-right
returns-in-Some-clause-right c = λ frames processors st sound right.
    AreRight-as _ _ _ _ _ _ _ c.vacate.ensures.uses c.vacate.ensures.held c.vacate.ensures.places
    (AreRight-given st c.args.self.now.uses.items c.args.self.now.held.items c.args.self.now.places.items right frames processors sound
    c.args.space c.args.page c.in-Some.frame _ (sym c.in-Some.ensures.was) c.in-Some.ensures.removed)
