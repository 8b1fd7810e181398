use Rattle.page_rights.specs.Rights.{rights_of}
use Rattle.pager_model.specs.Regions.{end_of}
use Rattle.pager_laws.proofs.RegionReplies.{grow_found}
use Rattle.region_table.proofs.RegionRights.{gains_owned, grow_gains}
use Rattle.followed_space.specs.contracts.space.FollowedSpace.{the_view}
use Rattle.followed_space.proofs.RegionCalls.{follows_grown}
use Rattle.followed_space.proofs.space.FollowedSpace.grow.Goals as goal

pub invariant_of-self : goal.invariant_of-self
invariant_of-self c =
    let s = c.self.inside in
    let grows = grow_found s.regions c.args.page c.args.by c.in-Ok.ensures.reply in
    let r = grows.region in
    let gains = grow_gains s.regions c.args.page c.args.by r c.self.invariant.ordered grows.at grows.free in
    record {
      ordered = c.grow.ensures.ordered;
      owned = rw c.in-Ok.ensures.after
          (gains_owned s.regions _ (end_of r) c.args.by r.rights gains (rights_of s.own) c.self.invariant.owned);
    }

pub returns-clause-follows : goal.returns-clause-follows
returns-clause-follows c =
    let grows = grow_found c.self.inside.regions c.args.page c.args.by c.in-Ok.ensures.reply in
    rw (c.in-Ok.ensures.after, ← c.self.view_is)
    (follows_grown (the_view c.self.inside) c.args.page c.args.by c.self.invariant.ordered grows c.self.invariant.owned)
