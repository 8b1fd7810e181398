use Rattle.page_rights.specs.Rights.{rights_of}
use Rattle.pager_laws.proofs.RegionReplies.{none_meets}
use Rattle.region_table.specs.Table.{region_of}
use Rattle.region_table.proofs.RegionRights.{gains_owned, map_gains}
use Rattle.followed_space.specs.contracts.space.FollowedSpace.{the_view}
use Rattle.followed_space.proofs.RegionCalls.{follows_mapped}
use Rattle.followed_space.proofs.space.FollowedSpace.map.Goals as goal

pub invariant_of-self : goal.invariant_of-self
invariant_of-self c =
    let s = c.self.inside in
    let gains =
    map_gains s.regions (region_of c.args.page c.args.length c.args.kind c.args.rights)
    (none_meets s.regions c.args.page c.args.length c.in-Ok.ensures.reply) in
    record {
      ordered = c.map.ensures.ordered;
      owned = rw c.in-Ok.ensures.after
          (gains_owned s.regions _ c.args.page c.args.length c.args.rights gains (rights_of s.own) c.self.invariant.owned);
    }

pub returns-clause-follows : goal.returns-clause-follows
returns-clause-follows c =
    let free = none_meets c.self.inside.regions c.args.page c.args.length c.in-Ok.ensures.reply in
    rw (c.in-Ok.ensures.after, ← c.self.view_is)
    (follows_mapped (the_view c.self.inside) c.args.page c.args.length c.args.kind c.args.rights free c.self.invariant.owned)
