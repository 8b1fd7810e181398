use Rattle.std.proofs.Common.{◌≡◌, ◌+◌, ◌-◌, ◌*◌, ◌≤◌, ◌⊎◌}
use Rattle.extent_tree.specs.Rows.{NoRows, NoSplitRoots}
use Rattle.extent_tree.proofs.walk.next.Given as goal

-- no page so far has a row round it
abbrev pub invariant-loop-page : goal.invariant-loop-page
invariant-loop-page g l = record {
  none : NoRows l.store 3 l.from l.page;
  from_on : l.from ≤ l.page;
  within : (l.page ≤ l.end) ⊎ (l.page ≡ l.from);
  cost : l.steps ≤ l.fn.steps + 4 * (l.page - l.from);
  begun : NoSplitRoots l.store l.from l.end → (l.page ≡ l.from) × (l.steps ≡ l.fn.steps);
}

abbrev pub decreases-loop-page : goal.decreases-loop-page
decreases-loop-page g l = l.end - l.page
