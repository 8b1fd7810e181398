use Rattle.std.proofs.Common.{◌≡◌, ◌-◌, [], map, replicate, vec_capacity, vec_len}
use Rattle.std.specs.List.{range_with_len}
use Rattle.pager_model.specs.Frame.{zero_frame}
use Rattle.pager_model.proofs.frame.frames_of.Given as goal

abbrev pub invariant-loop-number : goal.invariant-loop-number
invariant-loop-number l =
    (l.frames.items ≡ map zero_frame (range_with_len 0 l.number))
    × (vec_capacity l.frames ≡ l.count)
    × (vec_len l.frames ≡ l.number)
    × (l.chunks.items ≡ replicate (l.count - l.number) [])
