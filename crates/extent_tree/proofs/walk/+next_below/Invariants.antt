use Rattle.std.proofs.Common.{◌≡◌, ◌+◌, ◌-◌, ◌*◌, ◌≤◌, ◌⊎◌}
use Rattle.extent_tree.specs.Kept.{AreInOrder}
use Rattle.extent_tree.specs.Rows.{NoRows}
use Rattle.extent_tree.proofs.walk.+next_below.Given as goal

-- no page so far has a row round it
abbrev pub invariant-loop-page : goal.invariant-loop-page
invariant-loop-page g l = record {
  none : NoRows l.store (3 - l.height) l.from l.page;
  from_on : l.from ≤ l.page;
  within : (l.page ≤ l.end) ⊎ (l.page ≡ l.from);
  places : AreInOrder l.store l.height l.place l.page l.end;
  cost : l.steps ≤ l.fn.steps + (4 - l.height) * (l.page - l.from);
}

abbrev pub decreases-loop-page : goal.decreases-loop-page
decreases-loop-page g l = l.end - l.page

-- the levels below
abbrev pub decreases-next_below : goal.decreases-next_below
decreases-next_below g l = 4 - l.height
