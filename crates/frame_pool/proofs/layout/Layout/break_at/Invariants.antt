use Rattle.std.proofs.Common.{◌≡◌}
use Rattle.std.specs.Option.{IfSome}
use Rattle.pager_model.specs.Layouts.{broken_at}
use Rattle.frame_pool.specs.Placed.{CanBreak}
use Rattle.frame_pool.proofs.BreakSteps.{broken_on, size_on}
use Rattle.frame_pool.proofs.layout.Layout.break_at.Given as goal

abbrev pub invariant-loop-part : goal.invariant-loop-part
invariant-loop-part l =
    record {
      can : IfSome l.part (CanBreak l.self);
      broken : broken_on l.part l.self ≡ broken_at l.id l.fn.self;
    }

abbrev pub decreases-loop-part : goal.decreases-loop-part
decreases-loop-part l = size_on l.part
