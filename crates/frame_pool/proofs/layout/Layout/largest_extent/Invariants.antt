use Rattle.std.proofs.Common.{◌≡◌}
use Rattle.pager_model.specs.Layouts.{largest_extent}
use Rattle.frame_pool.proofs.TakenExtent.{largest_below}
use Rattle.frame_pool.proofs.layout.Layout.largest_extent.Given as goal

abbrev pub invariant-loop-level : goal.invariant-loop-level
invariant-loop-level l =
    record {
      same : l.self ≡ l.fn.self;
      rest : largest_below l.level l.self ≡ largest_extent l.fn.size l.fn.self;
    }
