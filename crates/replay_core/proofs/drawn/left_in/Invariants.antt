use Rattle.std.proofs.Common.{◌≡◌, ◌≤◌, length, filter}
use Rattle.std.specs.List.{range_with_len}
use Rattle.replay_core.specs.Schedules.{flies}
use Rattle.replay_core.proofs.drawn.left_in.Given as goal

abbrev pub invariant-loop-actor : goal.invariant-loop-actor
invariant-loop-actor g l = (l.left.items ≡ filter (flies l.machine.flights) (range_with_len 0 l.actor)) × (length l.left.items ≤ l.actor)
