use Rattle.std.proofs.Common.{◌≡◌, replicate, None, vec_capacity, vec_len}
use Rattle.frame_table.proofs.table.none_out.Given as goal

abbrev pub invariant-loop : goal.invariant-loop
invariant-loop l = (l.out.items ≡ replicate l.counter None) × (vec_capacity l.out ≡ l.frames) × (vec_len l.out ≡ l.counter)
