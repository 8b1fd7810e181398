use Rattle.std.proofs.Common.{map}
use Rattle.pager_core.specs.Machines.{all_left}
use Rattle.replay_core.proofs.OrderLemmas.{Drawing}
use Rattle.replay_core.proofs.drawn.replay_drawn.Given as goal

abbrev pub invariant-loop-generator : goal.invariant-loop-generator
invariant-loop-generator g l = Drawing l.trace (map g.S.Store.seen l.fn.stores.items) l.seed l.machine l.generator

abbrev pub decreases-loop-generator : goal.decreases-loop-generator
decreases-loop-generator g l = all_left l.machine
