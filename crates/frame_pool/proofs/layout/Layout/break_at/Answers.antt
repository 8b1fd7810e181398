use Rattle.std.proofs.Common.{sym, ap, ◌∙◌}
use Rattle.frame_pool.proofs.BreakSteps.{broken_on, broken_step}
use Rattle.frame_pool.proofs.layout.Layout.break_at.Goals as goal

pub loop-part-preserved : goal.loop-part-preserved
loop-part-preserved c =
    let split = c.split_to_break-part.ensures in
    let can = rw c.in-Some.is at c.loop-part.invariant.can in
    record {
      can = split.breaks;
      broken = rw (split.next, split.split) (broken_step c.loop-part.self c.in-Some.whole can.splits)
          ∙ sym (ap (λ part. broken_on part c.loop-part.self) c.in-Some.is) ∙ c.loop-part.invariant.broken;
    }
