use Rattle.std.proofs.Common.{arith}
use Rattle.journal_core.proofs.RuleSteps.{author_splits}
use Rattle.journal_core.proofs.steps.alight_author.Goals as goal

pub split_seat-requires : goal.split_seat-requires
split_seat-requires c = (c.requires.table.0, omega arith, author_splits _ _ _)
