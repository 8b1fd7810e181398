use Rattle.std.proofs.Common.{◌≡◌, ◌-◌, map, replicate, vec_capacity, vec_len, Some}
use Rattle.std.specs.List.{range_with_len}
use Rattle.pager_model.specs.Frame.{zero_frame}
use Rattle.pager_model.specs.Stored.{zero_words}
use Rattle.swap_slots.proofs.memory.slot.blank_slots.Given as goal

abbrev pub invariant-loop : goal.invariant-loop
invariant-loop l =
    (l.slots.items ≡ replicate l.counter (Some zero_words))
    × (vec_capacity l.slots ≡ l.count)
    × (vec_len l.slots ≡ l.counter)
    × (l.frames.items ≡ map zero_frame (range_with_len 0 (l.count - l.counter)))
