use Rattle.std.proofs.Common.{◌+◌, ◌-◌, ◌*◌, ◌≤◌}
use Rattle.tiles.specs.Blocks.{ProtectsTo}
use Rattle.tiles.specs.Resident.{mapping_at}
use Rattle.tiles.proofs.Counting.{count}
use Rattle.tiles.proofs.Looks.{has_page}
use Rattle.tiles.proofs.base.Base.after_rights_of_all.Given as goal

abbrev pub invariant-loop-entry : goal.invariant-loop-entry
invariant-loop-entry g l = record {
  from_on : l.first ≤ l.from;
  within : l.from ≤ l.end;
  protects : ProtectsTo l.first l.from l.rights l.fn.self l.self;
  cost : l.steps ≤ l.fn.steps + 4 * (l.from - l.first) + 58 * count (has_page (mapping_at l.fn.self)) l.first (l.from - l.first);
}

abbrev pub decreases-loop-entry : goal.decreases-loop-entry
decreases-loop-entry g l = l.end - l.from
