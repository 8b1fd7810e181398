use Rattle.std.proofs.Common.{map}
use Rattle.replay_core.proofs.FiledLemmas.{Filing}
use Rattle.replay_core.proofs.file_order.replay_file_order.Given as goal

abbrev pub invariant-loop-line : goal.invariant-loop-line
invariant-loop-line g l = Filing l.trace (map g.S.Store.seen l.fn.stores.items) l.line-index l.machine
