use Rattle.std.proofs.Common.{◌<◌, sym, arith}
use Rattle.region_table.proofs.NextAbove.{next_above}
use Rattle.region_table.proofs.RegionSearch.{found_page}
use Rattle.region_table.proofs.Regions.want_at.Goals as goal
use Rattle.pager_model.specs.Bounds.{space_pages}

pub want_in-requires-clause-has_first : goal.want_in-requires-clause-has_first
want_in-requires-clause-has_first c = omega (arith, found_page c.args.self.now c.in_ok-region.ensures.ordered.in_order c.args.page c.in_ok-region.region (sym c.in_ok-region.ensures.value))

pub want_in-requires-clause-has_last : goal.want_in-requires-clause-has_last
want_in-requires-clause-has_last c = omega (arith, found_page c.args.self.now c.in_ok-region.ensures.ordered.in_order c.args.page c.in_ok-region.region (sym c.in_ok-region.ensures.value))

pub want_in-requires-clause-in_space : goal.want_in-requires-clause-in_space
want_in-requires-clause-in_space c = omega (arith, found_page c.args.self.now c.in_ok-region.ensures.ordered.in_order c.args.page c.in_ok-region.region (sym c.in_ok-region.ensures.value))

pub want_in-requires-clause-above : goal.want_in-requires-clause-above
want_in-requires-clause-above c =
    let found = found_page c.args.self.now c.in_ok-region.ensures.ordered.in_order c.args.page c.in_ok-region.region (sym c.in_ok-region.ensures.value) in
    let within : c.args.page < space_pages = omega (arith, found) in
    omega (arith, c.next_start.ensures.value, (next_above 0 c.args.self.now c.in_ok-region.ensures.ordered.in_order c.args.page within).0)

pub want_in-requires-clause-next_in_space : goal.want_in-requires-clause-next_in_space
want_in-requires-clause-next_in_space c =
    let found = found_page c.args.self.now c.in_ok-region.ensures.ordered.in_order c.args.page c.in_ok-region.region (sym c.in_ok-region.ensures.value) in
    let within : c.args.page < space_pages = omega (arith, found) in
    omega (arith, c.next_start.ensures.value, (next_above 0 c.args.self.now c.in_ok-region.ensures.ordered.in_order c.args.page within).1)
