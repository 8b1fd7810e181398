use Rattle.frame_table.proofs.Moves.{IsTable-start}
use Rattle.frame_table.proofs.table.make.Goals as goal

pub invariant_of-result : goal.invariant_of-result
invariant_of-result c = rw (c.in_ok-out.ensures, c.in_ok-create.ensures) (IsTable-start c.args.sizes c.args.frames c.args.processors)
