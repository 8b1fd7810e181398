use Rattle.std.proofs.Common.{◌≡◌, ◌+◌, ◌≤◌, [], ◌++◌, replicate, vec_len, vec_capacity}
use Rattle.pager_model.proofs.chunks.append_chunks.Given as goal

abbrev pub invariant-loop : goal.invariant-loop
invariant-loop l =
    (l.chunks.items ≡ l.initial.chunks.items ++ replicate l.counter []) × (vec_len l.chunks ≡ vec_len l.initial.chunks + l.counter) ×
    (vec_capacity l.chunks ≡ vec_capacity l.initial.chunks) × (l.block.left + l.counter ≡ l.count) × (l.count ≤ 64)
