use Rattle.std.proofs.Common.{◌≡◌, ℕ, ◌≤◌, false, nat_lt, length, get_or}
use Rattle.swap_slots.proofs.table.free.all_free.Given as goal

-- the slots below this one are free so far
abbrev pub invariant-loop-slot : goal.invariant-loop-slot
invariant-loop-slot l = (l.count ≤ length l.free) × ((s : ℕ) → get_or l.free s false ≡ nat_lt s l.slot)
