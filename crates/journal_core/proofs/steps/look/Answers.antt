use Rattle.std.proofs.Common.{arith}
use mathlib.Core.Option.{none}
use Rattle.atomic_table.specs.Table.{step}
use Rattle.journal_core.proofs.RuleSteps.{looks}
use Rattle.journal_core.proofs.steps.look.Goals as goal

pub load-requires : goal.load-requires
load-requires c = (c.requires.table.0, omega arith, looks _ _ _ _ (step c.args.word.now.table_id.slots 16 0 0 none) c.requires.live)
