use Rattle.std.proofs.Common.{arith}
use Rattle.page_rights.specs.Rights.{rights_of}
use Rattle.region_table.proofs.RegionRights.{unmap_owned}
use Rattle.region_table.proofs.RegionSearch.{found_page}
use Rattle.followed_space.specs.contracts.space.FollowedSpace.{the_view}
use Rattle.followed_space.proofs.RegionCalls.{follows_unmapped}
use Rattle.followed_space.proofs.space.FollowedSpace.unmap.Goals as goal

pub set-requires : goal.set-requires
set-requires c =
    let s = c.self.inside in
    omega (arith, (found_page s.regions c.self.invariant.ordered.in_order c.args.page c.in-Ok.region c.in-Ok.ensures.region).in_space)

pub invariant_of-self : goal.invariant_of-self
invariant_of-self c =
    let s = c.self.inside in
    record {
      ordered = c.unmap.ensures.ordered;
      owned = rw c.in-Ok.ensures.after
          (unmap_owned s.regions c.args.page c.in-Ok.region (rights_of s.own) (rights_of c.set.new.self)
          (record { ordered = c.self.invariant.ordered; at = c.in-Ok.ensures.region; forgets = c.set.ensures }) c.self.invariant.owned);
    }

pub returns-clause-follows : goal.returns-clause-follows
returns-clause-follows c =
    rw (c.in-Ok.ensures.after, ← c.self.view_is)
    (follows_unmapped (the_view c.self.inside) c.args.page c.in-Ok.region c.set.new.self
    (record { ordered = c.self.invariant.ordered; at = c.in-Ok.ensures.region; forgets = c.set.ensures }))
