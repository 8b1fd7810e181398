use Rattle.std.proofs.Common.{◌+◌, ◌-◌, ◌*◌, ◌≤◌, min}
use Rattle.tiles.specs.Blocks.{KeepsRights}
use Rattle.tiles.specs.Resident.{mapping_at}
use Rattle.tiles.proofs.base.Base.any_has_other_rights.Given as goal

-- the pages so far have the rights
abbrev pub invariant-loop-entry : goal.invariant-loop-entry
invariant-loop-entry g l = record {
  from_on : l.first ≤ l.from;
  keeps : KeepsRights l.first l.from l.rights (mapping_at l.self);
  cost : l.steps + 4 * l.first ≤ l.fn.steps + 4 * min l.from l.end;
}

abbrev pub decreases-loop-entry : goal.decreases-loop-entry
decreases-loop-entry g l = l.end - l.from
