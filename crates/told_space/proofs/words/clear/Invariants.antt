use Rattle.std.proofs.Common.{◌≡◌, ◌≤◌, ◌<◌, ℕ, length}
use Rattle.std.specs.BTreeMap.{get}
use Rattle.std.specs.Ordering.{nat_cmp}
use Rattle.told_space.proofs.words.clear.Given as goal

-- the words of other pages are as at first
abbrev pub invariant-loop-key : goal.invariant-loop-key
invariant-loop-key l = (k : ℕ) → (l.from ≤ k → k < l.end → ⊥) → get nat_cmp l.words k ≡ get nat_cmp l.fn.words k

abbrev pub decreases-loop-key : goal.decreases-loop-key
decreases-loop-key l = length l.words.entries
