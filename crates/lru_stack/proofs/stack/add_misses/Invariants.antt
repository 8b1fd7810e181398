use Rattle.std.proofs.Common.{◌≡◌, ◌+◌, ◌-◌, ◌<◌, ◌≤◌, ℕ, take, sum, get_or}
use Rattle.lru_stack.proofs.stack.add_misses.Given as goal

abbrev pub invariant-loop-place : goal.invariant-loop-place
invariant-loop-place l =
    (l.missed + sum (take l.place l.found) ≡ l.uses)
    × ((k : ℕ) → k < l.place → get_or l.curve k 0 ≡ get_or l.initial.curve k 0 + (l.uses - sum (take (k + 1) l.found)))
    × ((k : ℕ) → l.place ≤ k → get_or l.curve k 0 ≡ get_or l.initial.curve k 0)
