use Rattle.std.proofs.Common.{◌≡◌, ◌+◌, ◌-◌, ◌*◌, ◌/◌, ◌<◌, ◌≤◌}
use Rattle.tiles.specs.Looks.{looks_in_blocks, resident_in}
use Rattle.tiles.specs.Resident.{mapping_at}
use Rattle.tiles.specs.Sized.{AreMovesIn}
use Rattle.tiles.proofs.Blocks.{ProtectsBlocks}
use Rattle.tiles.proofs.base.Base.after_rights.Given as goal

-- The blocks so far have the rights, and the moves are of these. The next one was looked at where it has a resident page.
abbrev pub invariant-loop-block : goal.invariant-loop-block
invariant-loop-block g l = record {
  on : l.first / 512 ≤ l.block;
  within : l.block ≤ l.past;
  protects : ProtectsBlocks l.block l.first l.length l.rights l.fn.self l.self;
  moves : AreMovesIn l.fn.sizes (mapping_at l.fn.self) (mapping_at l.self) l.moves;
  used : l.block < l.past → 0 < resident_in (mapping_at l.self) (l.block * 512) 512;
  cost : l.block < l.past → l.steps ≤ l.fn.steps + looks_in_blocks (mapping_at l.fn.self) (l.first / 512) (l.block - l.first / 512) + 1;
  cost_all : l.block ≡ l.past → l.steps ≤ l.fn.steps + looks_in_blocks (mapping_at l.fn.self) (l.first / 512) (l.past - l.first / 512);
}

abbrev pub decreases-loop-block : goal.decreases-loop-block
decreases-loop-block g l = l.past - l.block
