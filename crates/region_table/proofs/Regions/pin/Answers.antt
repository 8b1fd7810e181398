use Rattle.std.proofs.Common.{◌≡◌, length, get_or, set, sym, ap, ◌∙◌}
use Rattle.std.proofs.lemmas.List.{length-set}
use Rattle.arrayvec.proofs.ArrayVecLemmas.{items-with_items}
use Rattle.pager_model.specs.Regions.{pinned_regions}
use Rattle.region_table.specs.Table.{IsTable}
use Rattle.region_table.proofs.TableLemmas.{blank, repinned, find-at_none, region_at-place, region_at-pinned, pin_reply-none, pin_reply-done, pin_reply-denied, IsTable-pinned}
use Rattle.region_table.proofs.Regions.pin.Goals as goal

pub returns-in_default-clause-reply : goal.returns-in_default-clause-reply
returns-in_default-clause-reply c =
    pin_reply-none c.args.pinned c.args.self.now c.args.page (find-at_none _ c.args.self.now (sym c.in_default.ensures.value))

pub returns-then-not-may_pin-clause-reply : goal.returns-then-not-may_pin-clause-reply
returns-then-not-may_pin-clause-reply c =
    let rs = c.args.self.now in
    let may = rw (c.deref.ensures.0 ∙ c.self.view_is) at c.may_pin.ensures in
    pin_reply-denied c.args.pinned rs c.args.page (get_or rs c.in-Some.place blank)
    (region_at-place rs c.args.page c.in-Some.place blank (sym c.in-Some.ensures.value))
    (sym may ∙ c.if-not-may_pin.true)

pub returns-clause-reply : goal.returns-clause-reply
returns-clause-reply c =
    let rs = c.args.self.now in
    let may = rw (c.deref.ensures.0 ∙ c.self.view_is) at c.may_pin.ensures in
    pin_reply-done c.args.pinned rs c.args.page (get_or rs c.in-Some.place blank)
    (region_at-place rs c.args.page c.in-Some.place blank (sym c.in-Some.ensures.value))
    (sym may ∙ c.if-not-may_pin.false)

law : (c : goal.After-self-1)
    → (pinned_regions c.args.page c.args.pinned c.args.self.now ≡ set c.args.self.now c.in-Some.place
    (repinned c.args.pinned (get_or c.args.self.now c.in-Some.place blank)))
    × IsTable (pinned_regions c.args.page c.args.pinned c.args.self.now)
law c =
    IsTable-pinned c.args.self.now c.args.page c.args.pinned c.in-Some.place blank c.in-Some.ensures.ordered
    (sym c.in-Some.ensures.value)

pub returns-clause-after : goal.returns-clause-after
returns-clause-after c =
    items-with_items c.self.inside.items _ (length-set c.deref_mut.result.now _ _ ∙ ap length c.deref_mut.ensures.value)
    ∙ rw (c.deref_mut.ensures.value ∙ c.self.view_is) (sym (law c).0)

pub invariant_of-self : goal.invariant_of-self
invariant_of-self c = rw (returns-clause-after c) (law c).1

pub returns-clause-ordered : goal.returns-clause-ordered
returns-clause-ordered c = invariant_of-self c

pub returns-clause-region : goal.returns-clause-region
returns-clause-region c =
    let rs = c.args.self.now in
    rw (returns-clause-after c, c.deref.ensures.0 ∙ c.self.view_is)
    (region_at-pinned rs c.args.page c.args.pinned (get_or rs c.in-Some.place blank)
    (region_at-place rs c.args.page c.in-Some.place blank (sym c.in-Some.ensures.value)))
