use Rattle.std.proofs.Common.{◌≡◌, replicate, None, vec_capacity, vec_len}
use Rattle.followed_frames.proofs.frames.empty_hands.Given as goal

abbrev pub invariant-loop : goal.invariant-loop
invariant-loop l = (l.hands.items ≡ replicate l.counter None) × (vec_capacity l.hands ≡ l.frames) × (vec_len l.hands ≡ l.counter)
