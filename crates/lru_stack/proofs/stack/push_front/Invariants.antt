use Rattle.std.proofs.Common.{◌≡◌, ◌++◌, take, drop, Some}
use Rattle.lru_stack.specs.Stacks.{shifted}
use Rattle.lru_stack.proofs.stack.push_front.Given as goal

abbrev pub invariant-loop-place : goal.invariant-loop-place
invariant-loop-place l =
    shifted (Some l.fn.tile) l.initial.places ≡ take l.place-index l.places ++ shifted (Some l.carried) (drop l.place-index l.places)
