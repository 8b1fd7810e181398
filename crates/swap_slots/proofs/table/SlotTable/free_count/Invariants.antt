use Rattle.std.proofs.Common.{◌≡◌, ◌≤◌, false, count_by, get_or}
use Rattle.std.specs.List.{range_with_len}
use Rattle.swap_slots.proofs.table.SlotTable.free_count.Given as goal

-- the slots so far whose bits are set
abbrev pub invariant-loop-slot : goal.invariant-loop-slot
invariant-loop-slot l = (l.count ≤ l.slot) × (l.count ≡ count_by (λ s. get_or l.self-inside.free s false) (range_with_len 0 l.slot))
