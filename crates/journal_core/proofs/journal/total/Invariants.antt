use Rattle.std.proofs.Common.{◌≡◌, ◌≤◌, ◌*◌, ◌^◌, sum, take}
use Rattle.journal_core.proofs.journal.total.Given as goal

abbrev pub invariant-loop-room : goal.invariant-loop-room
invariant-loop-room l = (l.total ≡ sum (take l.room-index l.rooms)) × (l.total ≤ l.room-index * 2 ^ 31)
