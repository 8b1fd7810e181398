use Rattle.std.proofs.Common.{◌≡◌, take}
use Rattle.std.specs.List.{AllByRecursion}
use Rattle.replay_core.specs.Schedules.{IsStuck}
use Rattle.replay_core.proofs.stepping.step_first.Given as goal

abbrev pub invariant-loop-actor : goal.invariant-loop-actor
invariant-loop-actor g l = (l.machine ≡ l.fn.machine) × AllByRecursion (IsStuck l.machine) (take l.actor-index l.actors)
