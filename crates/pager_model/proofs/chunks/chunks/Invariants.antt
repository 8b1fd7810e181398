use Rattle.std.proofs.Common.{◌≡◌, ◌-◌, ◌≤◌, [], replicate, vec_len, vec_capacity}
use Rattle.pager_model.proofs.chunks.chunks.Given as goal

abbrev pub invariant-loop-alloc : goal.invariant-loop-alloc
invariant-loop-alloc l = (l.chunks.items ≡ replicate (vec_len l.chunks) []) × (vec_len l.chunks ≤ l.count) × (l.count ≤ vec_capacity l.chunks)

abbrev pub decreases-loop-alloc : goal.decreases-loop-alloc
decreases-loop-alloc l = l.count - vec_len l.chunks
