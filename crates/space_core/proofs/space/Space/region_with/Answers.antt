use Rattle.std.proofs.Common.{sym, arith}
use Rattle.region_table.proofs.RegionSearch.{found_page}
use Rattle.space_core.proofs.space.Space.region_with.Goals as goal

pub overflow_add-region : goal.overflow_add-region
overflow_add-region g c =
    omega (
      arith,
      found_page c.self.inside.regions c.self.invariant.ordered.in_order c.args.page c.in_ok-region.region (sym c.in_ok-region.ensures.value),
    )
