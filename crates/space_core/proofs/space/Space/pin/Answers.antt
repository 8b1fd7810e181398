use Rattle.pager_model.specs.declared.region.Rights.TheVariants.{NoAccess}
use Rattle.space_core.specs.Tables.{own_in}
use Rattle.space_core.proofs.SameView.{as_fields}
use Rattle.space_core.proofs.RegionChanges.{changed_kept, gains_mapped, pins_region}
use Rattle.region_table.proofs.RegionRights.{gains_owned, pin_gains}
use Rattle.space_core.proofs.space.Space.pin.Goals as goal

pub invariant_of-self : goal.invariant_of-self
invariant_of-self g c =
    let old = as_fields c.self.view_is in
    let kept = c.self.invariant in
    let rest = rw (← c.self.view_is) at c.requires.resting in
    let gains = pin_gains old.regions c.args.page c.args.pinned in
    rw c.in-Ok.ensures.after
    (changed_kept old _ old.table _ _ _ kept (rw c.in-Ok.ensures.after at c.pin.ensures.ordered)
    (gains_owned old.regions _ 0 0 NoAccess gains (own_in old.table) kept.own)
    (gains_mapped old _ 0 0 NoAccess gains kept.mapped) rest.none_pending rest.none_clearing)

pub returns : goal.returns
returns g c =
    let old = as_fields c.self.view_is in
    let kept = c.self.invariant in
    rw (c.in-Ok.ensures.after, c.answered.ensures, ← c.self.view_is)
    (pins_region old c.args.page c.args.pinned (rw (← c.self.view_is) at c.requires.resting) (rw (← c.self.view_is) at c.requires.may)
    kept.own kept.mapped)
