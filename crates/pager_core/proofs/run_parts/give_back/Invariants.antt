use Rattle.std.proofs.Common.{◌≡◌, ◌+◌, ◌≤◌, ◌++◌, length, map, reverse, vec_capacity}
use Rattle.space_core.specs.Standing.{Kept}
use Rattle.pager_core.proofs.run_parts.give_back.Given as goal

abbrev pub invariant-loop-space : goal.invariant-loop-space
invariant-loop-space g l =
    (map g.S.Store.seen l.stores.items ++ reverse (map (λ (k : Kept). k.store) l.spaces.items) ≡ map g.S.Store.seen l.fn.stores.items
    ++ reverse (map (λ (k : Kept). k.store) l.fn.spaces.items))
    × (length l.stores.items + length l.spaces.items ≤ vec_capacity l.stores)
    × (vec_capacity l.stores ≡ vec_capacity l.fn.stores)

abbrev pub decreases-loop-space : goal.decreases-loop-space
decreases-loop-space g l = goal.left-loop-space g l
