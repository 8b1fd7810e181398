use Rattle.std.proofs.Common.{arith}
use mathlib.Core.Option.{none}
use Rattle.atomic_table.specs.Table.{step}
use Rattle.journal_core.proofs.RuleSteps.{enters_keep}
use Rattle.journal_core.proofs.steps.enter.Goals as goal

pub load_new_seat-requires : goal.load_new_seat-requires
load_new_seat-requires c = (omega arith, enters_keep _ _ (step c.args.word.now.table_id.slots 0 0 0 none))
