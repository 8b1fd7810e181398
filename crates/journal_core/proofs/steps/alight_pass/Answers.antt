use Rattle.std.proofs.Common.{arith}
use Rattle.journal_core.proofs.RuleSteps.{pass_splits}
use Rattle.journal_core.proofs.steps.alight_pass.Goals as goal

pub split_seat-requires : goal.split_seat-requires
split_seat-requires c = (c.requires.table.0, omega arith, pass_splits _ _ _)
