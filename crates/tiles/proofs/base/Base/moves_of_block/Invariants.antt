use Rattle.std.proofs.Common.{ℕ, ◌≤◌, Option}
use Rattle.pager_model.specs.declared.tile.Mapping.{Mapping}
use Rattle.tiles.specs.Blocks.{AreSizesOfBlock}
use Rattle.tiles.specs.Resident.{mapping_at}
use Rattle.tiles.specs.Touched.{IsInSpace}
use Rattle.tiles.proofs.Blocks.{CountsTo}
use Rattle.tiles.proofs.base.Base.moves_of_block.Given as goal

-- the moves so far
abbrev pub invariant-loop-i : goal.invariant-loop-i
invariant-loop-i g l = record {
  few_promotions : l.moves.promotions ≤ l.i;
  few_demotions : l.moves.demotions ≤ l.i;
  in_space : IsInSpace l.moves.touched;
  counts : (old : ℕ → Option Mapping) → AreSizesOfBlock l.fn.sizes l.block l.before old
      → CountsTo l.fn.sizes l.block l.i old (mapping_at l.self) l.moves;
}
