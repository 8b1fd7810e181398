use Rattle.std.proofs.Common.{◌<◌, sym, arith}
use Rattle.region_table.proofs.RegionSearch.{found_page}
use Rattle.followed_space.proofs.space.FollowedSpace.region_at.Goals as goal

pub returns-clause-in_space : goal.returns-clause-in_space
returns-clause-in_space c = omega
    (arith, found_page c.self.inside.regions c.in_ok-region.ensures.ordered.in_order c.args.page c.in_ok-region.region (sym c.in_ok-region.ensures.value))

pub returns-clause-ends : goal.returns-clause-ends
returns-clause-ends c =
    let found = found_page c.self.inside.regions c.in_ok-region.ensures.ordered.in_order c.args.page c.in_ok-region.region (sym c.in_ok-region.ensures.value) in
    omega (arith, found.in_space)
