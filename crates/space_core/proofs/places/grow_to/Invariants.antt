use Rattle.std.proofs.Common.{◌≡◌, ◌+◌, ◌++◌, None, replicate, vec_capacity, vec_len}
use Rattle.space_core.proofs.places.grow_to.Given as goal

abbrev pub invariant-loop : goal.invariant-loop
invariant-loop l =
    (l.places.items ≡ l.initial.places.items ++ replicate l.counter None) × (vec_len l.places ≡ vec_len l.initial.places + l.counter)
    × (vec_capacity l.places ≡ vec_capacity l.initial.places)
