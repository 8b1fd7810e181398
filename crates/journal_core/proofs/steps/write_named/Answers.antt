use Rattle.std.proofs.Common.{arith, subst, sym}
use mathlib.Core.Option.{none}
use Rattle.atomic_table.specs.Table.{step}
use Rattle.journal_core.specs.Views.{MayGrow}
use Rattle.journal_core.proofs.GrownHistory.{writes}
use Rattle.journal_core.proofs.steps.write_named.Goals as goal

pub fetch_add-requires : goal.fetch_add-requires
fetch_add-requires g c = (
  c.requires.table.0,
  omega arith,
  writes _ _ _ _ _ (step c.args.word.now.table_id.slots 16 1 0 none) (subst (MayGrow c.args.seat.now.me.0)
      (sym c.requires.name) c.requires.entry),
)
