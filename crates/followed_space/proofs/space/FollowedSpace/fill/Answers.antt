use Rattle.std.proofs.Common.{arith, sym}
use Rattle.region_table.proofs.RegionSearch.{found_page}
use Rattle.followed_space.proofs.space.FollowedSpace.fill.Goals as goal

pub rights-rights-requires : goal.rights-rights-requires
rights-rights-requires c = omega (
  arith,
  found_page c.self.inside.regions c.self.invariant.ordered.in_order c.args.page c.in-Some.region
      (sym c.in-Some.ensures.value),
)

pub after_fill-changes-requires-clause-page : goal.after_fill-changes-requires-clause-page
after_fill-changes-requires-clause-page c = omega
    (arith, found_page c.self.inside.regions c.self.invariant.ordered.in_order c.args.page c.in-Some.region (sym c.in-Some.ensures.value))
