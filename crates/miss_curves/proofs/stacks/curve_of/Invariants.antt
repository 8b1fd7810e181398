use Rattle.std.proofs.Common.{◌≡◌, ◌<◌, ℕ, take, length, get_or}
use Rattle.std.specs.List.{sum_by}
use Rattle.lru_stack.specs.Stacks.{missed_at}
use Rattle.miss_curves.proofs.stacks.curve_of.Given as goal

abbrev pub invariant-loop-stack : goal.invariant-loop-stack
invariant-loop-stack l =
    (length l.curve.items ≡ length l.fn.memory.items)
    × ((k : ℕ) → k < length l.fn.memory.items → get_or l.curve.items k 0 ≡ sum_by (missed_at k) (take l.stack-index l.stacks))
