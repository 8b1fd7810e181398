use Rattle.std.proofs.Common.{◌≡◌, replicate}
use Rattle.pager_core.proofs.run_parts.SpaceRooms.create.Given as goal

abbrev pub invariant-loop : goal.invariant-loop
invariant-loop g l = l.rooms.items ≡ replicate l.counter (record { frames = l.frames; processors = l.processors; sizes = l.sizes })
