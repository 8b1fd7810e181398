use Rattle.std.proofs.Common.{◌≡◌, ◌≤◌, ◌-◌, replicate, vec_len, vec_capacity}
use Rattle.std.specs.Vec.{vec_ptr}
use Rattle.pager_model.proofs.chunks.append_zeros.Given as goal

abbrev pub invariant-loop-words : goal.invariant-loop-words
invariant-loop-words l =
    (l.words.items ≡ replicate (vec_len l.words) 0) × (vec_len l.words ≤ 1024) × (vec_capacity l.words ≡ 1024)
    × (vec_ptr l.words ≡ vec_ptr l.initial.words)

abbrev pub decreases-loop-words : goal.decreases-loop-words
decreases-loop-words l = 1024 - vec_len l.words
