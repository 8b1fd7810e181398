use Rattle.std.proofs.Common.{true, count_by, ap, ◌∙◌}
use Rattle.buddy_extents.proofs.Ranges.{free_count-replicate}
use Rattle.buddy_extents.proofs.Free.create.Goals as goal

pub invariant_of-result : goal.invariant_of-result
invariant_of-result c = record {
  blocks = c.put_all_in.ensures.blocks;
  most = c.requires.most;
  counted = ap (count_by (λ free. free)) c.put_all_in.ensures.free ∙ free_count-replicate c.args.frames true;
}
