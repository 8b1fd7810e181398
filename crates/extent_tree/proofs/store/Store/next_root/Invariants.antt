use Rattle.std.proofs.Common.{◌≡◌, ℕ, ◌+◌, ◌<◌, ◌≤◌, get_or}
use Rattle.extent_tree.specs.Rows.{blank}
use Rattle.extent_tree.proofs.store.Store.next_root.Given as goal

-- nothing is at the roots so far
abbrev pub invariant-loop-root : goal.invariant-loop-root
invariant-loop-root g l = record {
  bare : (k : ℕ) → l.from ≤ k → k < l.root → get_or l.self.spots k blank ≡ blank;
  cost : l.steps + l.from ≡ l.fn.steps + l.root;
}
