use Rattle.std.proofs.Common.{false}
use Rattle.page_rights.specs.Rights.{rights_of}
use Rattle.pager_model.specs.declared.region.Rights.TheVariants.{NoAccess}
use Rattle.region_table.proofs.RegionRights.{gains_owned, pin_gains}
use Rattle.followed_space.specs.contracts.space.FollowedSpace.{the_view}
use Rattle.followed_space.proofs.RegionCalls.{follows_unwired}
use Rattle.followed_space.proofs.space.FollowedSpace.unwire.Goals as goal

pub invariant_of-self : goal.invariant_of-self
invariant_of-self c =
    let s = c.self.inside in
    record {
      ordered = c.pin.ensures.ordered;
      owned = rw c.in-Ok.ensures.after
          (gains_owned s.regions _ 0 0 NoAccess (pin_gains s.regions c.args.page false) (rights_of s.own) c.self.invariant.owned);
    }

pub returns-clause-follows : goal.returns-clause-follows
returns-clause-follows c =
    rw (c.in-Ok.ensures.after, ← c.self.view_is)
    (follows_unwired (the_view c.self.inside) c.args.page c.self.invariant.owned)
