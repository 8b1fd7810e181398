use Rattle.std.proofs.Common.{◌≡◌, ◌+◌, ◌-◌, ◌≤◌}
use Rattle.tiles.specs.Resident.{mapping_at}
use Rattle.tiles.specs.Sized.{begins_large_in}
use Rattle.tiles.proofs.Counting.{count}
use Rattle.tiles.proofs.base.Base.tiles_begun.Given as goal

-- the tiles so far
abbrev pub invariant-loop-entry : goal.invariant-loop-entry
invariant-loop-entry l = record {
  from_on : l.first ≤ l.from;
  within : l.from ≤ l.first + l.length;
  counted : l.count ≡ count (begins_large_in l.sizes (mapping_at l.self)) l.first (l.from - l.first);
}

abbrev pub decreases-loop-entry : goal.decreases-loop-entry
decreases-loop-entry l = l.first + l.length - l.from
