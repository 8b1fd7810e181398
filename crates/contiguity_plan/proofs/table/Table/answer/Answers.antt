use Rattle.std.proofs.Common.{subst}
use Rattle.contiguity_plan.specs.Tables.{IsRight}
use Rattle.contiguity_plan.proofs.RightTables.{answer-some}
use Rattle.contiguity_plan.proofs.table.Table.answer.Goals as goal

pub returns-in-Some-clause-right : goal.returns-in-Some-clause-right
returns-in-Some-clause-right c = λ frames processors st sound right allowed.
    subst (λ s. IsRight s c.give.new.self) (answer-some st c.args.space c.args.call.now c.in-Some.page c.in-Some.ensures allowed)
    (c.give.ensures.right frames processors st sound right)
