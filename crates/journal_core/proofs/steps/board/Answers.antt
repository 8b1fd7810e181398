use Rattle.std.proofs.Common.{arith}
use Rattle.journal_core.proofs.RuleSteps.{joins}
use Rattle.journal_core.proofs.steps.board.Goals as goal

pub join_seat-requires : goal.join_seat-requires
join_seat-requires c = (c.requires.table.0, c.requires.table.1, c.requires.other, omega arith, joins _ _ _ _ _ c.requires.live.0)
