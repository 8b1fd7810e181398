use Rattle.std.proofs.Common.{◌*◌, ◌+◌, ◌≤◌, false, true, length, get_or, replicate, ap, ◌∙◌, arith}
use Rattle.std.proofs.lemmas.List.{length-replicate}
use Rattle.pager_model.proofs.Lists.{get_or-alike}
use Rattle.buddy_extents.proofs.BlockMoves.{AreBlocks-none, free_in-none, next_largest, put_largest}
use Rattle.buddy_extents.proofs.hand.put_all_in.Goals as goal
use Rattle.pager_model.specs.Bounds.{most_frames}

pub loop-block-init : goal.loop-block-init
loop-block-init g c = record {
  blocks = AreBlocks-none c.args.nodes.now (ap length c.requires.empty ∙ length-replicate 65472 false)
      (λ k. ap (λ xs. get_or xs k false) c.requires.empty ∙ get_or-alike 65472 k false);
  free = free_in-none c.args.nodes.now;
}

pub loop-block-preserved : goal.loop-block-preserved
loop-block-preserved g c =
    let block = c.loop-block.block in
    let most : 512 * (block + 1) ≤ most_frames = omega arith in
    let done = put_largest c.loop-block.nodes (512 * (block + 1)) (512 * block) (replicate (512 * (block + 1)) true) most
    (next_largest c.loop-block.nodes block most c.loop-block.invariant.blocks c.loop-block.invariant.free) in
    rw (c.insert.ensures.set, c.node.ensures.node) (record { blocks = done.0; free = done.1 })
