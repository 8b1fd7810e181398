use Rattle.std.proofs.Common.{map}
use Rattle.pager_core.specs.Machines.{all_left}
use Rattle.replay_core.proofs.OrderLemmas.{Following, Lowering}
use Rattle.replay_core.proofs.scheduled.replay_schedule.Given as goal

abbrev pub invariant-loop-actor : goal.invariant-loop-actor
invariant-loop-actor g l = Following l.trace (map g.S.Store.seen l.fn.stores.items) l.schedule l.actor-index l.machine

abbrev pub invariant-loop-actors : goal.invariant-loop-actors
invariant-loop-actors g l = Lowering l.trace (map g.S.Store.seen l.fn.stores.items) l.schedule l.machine

abbrev pub decreases-loop-actors : goal.decreases-loop-actors
decreases-loop-actors g l = all_left l.machine
