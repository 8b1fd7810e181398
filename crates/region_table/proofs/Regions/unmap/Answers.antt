use Rattle.std.proofs.Common.{Some, sym, ap, ◌∙◌}
use Rattle.pager_model.specs.Regions.{unmap_reply_at}
use Rattle.region_table.proofs.TableLemmas.{find-at_none, region_at-place, IsTable-without_region}
use Rattle.region_table.proofs.Regions.unmap.Goals as goal

pub returns-in-Some-clause-region : goal.returns-in-Some-clause-region
returns-in-Some-clause-region c =
    region_at-place c.args.self.now c.args.page c.in-Some.place c.remove.result (sym c.in-Some.ensures.value)
    ∙ rw (sym c.self.view_is) (ap Some (sym c.remove.ensures.value))

pub returns-in-Some-clause-reply : goal.returns-in-Some-clause-reply
returns-in-Some-clause-reply c = ap unmap_reply_at (returns-in-Some-clause-region c)

pub returns-in-None-clause-reply : goal.returns-in-None-clause-reply
returns-in-None-clause-reply c = ap unmap_reply_at (find-at_none _ c.args.self.now (sym c.in-None.ensures.value))

pub returns-in-Some-clause-after : goal.returns-in-Some-clause-after
returns-in-Some-clause-after c =
    let law = IsTable-without_region c.args.self.now c.args.page c.in-Some.place c.in-Some.ensures.ordered
    (sym c.in-Some.ensures.value) c.remove.result in
    c.remove.ensures.items ∙ rw c.self.view_is (sym law.0)

pub invariant_of-self : goal.invariant_of-self
invariant_of-self c =
    let law = IsTable-without_region c.args.self.now c.args.page c.in-Some.place c.in-Some.ensures.ordered
    (sym c.in-Some.ensures.value) c.remove.result in
    rw (returns-in-Some-clause-after c) law.1

pub returns-in-Some-clause-ordered : goal.returns-in-Some-clause-ordered
returns-in-Some-clause-ordered c = invariant_of-self c
