use Rattle.std.proofs.Common.{◌≡◌, ◌*◌, true, replicate}
use Rattle.buddy_extents.specs.Blocks.{AreBlocks, free_in}
use Rattle.buddy_extents.proofs.hand.put_all_in.Given as goal

-- the frames so far are free
abbrev pub invariant-loop-block : goal.invariant-loop-block
invariant-loop-block g l = record {
  blocks : AreBlocks l.nodes (512 * l.block);
  free : free_in l.nodes (512 * l.block) ≡ replicate (512 * l.block) true;
}
