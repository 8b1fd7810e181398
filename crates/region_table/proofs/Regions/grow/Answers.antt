use Rattle.std.proofs.Common.{true, false, length, get_or, set, sym, ap, ◌∙◌, ◌≡◌, arith}
use Rattle.std.proofs.lemmas.List.{length-set}
use Rattle.arrayvec.proofs.ArrayVecLemmas.{items-with_items}
use Rattle.pager_model.specs.Regions.{grow_reply_at, grown_regions}
use Rattle.region_table.specs.Table.{IsTable}
use Rattle.region_table.proofs.TableLemmas.{blank, longer, find-at_none, grow_reply-kept, grow_reply-far, grow_reply-near, end-le, IsTable-grown}
use Rattle.region_table.proofs.Regions.grow.Goals as goal

pub returns-in_default-clause-reply : goal.returns-in_default-clause-reply
returns-in_default-clause-reply c =
    ap (grow_reply_at c.args.self.now c.args.by) (find-at_none _ c.args.self.now (sym c.in_default.ensures.value))

pub overflow_sub-end : goal.overflow_sub-end
overflow_sub-end c =
    rw (c.deref.ensures.0 ∙ c.self.view_is)
    ((end-le 0 c.args.self.now c.in-Some.ensures.ordered.in_order c.in-Some.place blank c.in-Some.ensures.within).1)

pub overflow_add-end : goal.overflow_add-end
overflow_add-end c = omega (arith, overflow_sub-end c)

pub returns-then-ne-clause-reply : goal.returns-then-ne-clause-reply
returns-then-ne-clause-reply c =
    grow_reply-kept c.args.self.now c.args.page c.args.by c.in-Some.place c.in-Some.ensures.value
    (rw (c.deref.ensures.0 ∙ c.self.view_is) at c.if-ne.ensures)

pub returns-then-by-end-clause-reply : goal.returns-then-by-end-clause-reply
returns-then-by-end-clause-reply c =
    let far = rw (c.deref.ensures.0 ∙ c.self.view_is) at c.if-by-end.true in
    grow_reply-far c.args.self.now c.args.page c.args.by c.in-Some.place c.in-Some.ensures.value
    (rw (c.deref.ensures.0 ∙ c.self.view_is) at c.if-ne.ensures) (omega arith)

pub returns-then-meets-clause-reply : goal.returns-then-meets-clause-reply
returns-then-meets-clause-reply c =
    let near = rw (c.deref.ensures.0 ∙ c.self.view_is) at c.if-by-end.false in
    let within = end-le 0 c.args.self.now c.in-Some.ensures.ordered.in_order c.in-Some.place blank c.in-Some.ensures.within in
    grow_reply-near c.args.self.now c.args.page c.args.by c.in-Some.place c.in-Some.ensures.value
    (rw (c.deref.ensures.0 ∙ c.self.view_is) at c.if-ne.ensures) true (omega (arith, within.1))
    (rw (c.deref.ensures.0 ∙ c.self.view_is) at c.if-meets.ensures)

pub returns-clause-reply : goal.returns-clause-reply
returns-clause-reply c =
    let near = rw (c.deref.ensures.0 ∙ c.self.view_is) at c.if-by-end.false in
    let within = end-le 0 c.args.self.now c.in-Some.ensures.ordered.in_order c.in-Some.place blank c.in-Some.ensures.within in
    grow_reply-near c.args.self.now c.args.page c.args.by c.in-Some.place c.in-Some.ensures.value
    (rw (c.deref.ensures.0 ∙ c.self.view_is) at c.if-ne.ensures) false (omega (arith, within.1))
    (rw (c.deref.ensures.0 ∙ c.self.view_is) at c.if-meets.ensures)

law : (c : goal.After-self-1)
    → (grown_regions c.args.page c.args.by c.args.self.now ≡ set c.args.self.now c.in-Some.place
    (longer c.args.by (get_or c.args.self.now c.in-Some.place blank))) × IsTable (grown_regions c.args.page c.args.by c.args.self.now)
law c =
    let near = rw (c.deref.ensures.0 ∙ c.self.view_is) at c.if-by-end.false in
    let within = end-le 0 c.args.self.now c.in-Some.ensures.ordered.in_order c.in-Some.place blank c.in-Some.ensures.within in
    let meets = rw (c.deref.ensures.0 ∙ c.self.view_is) at c.if-meets.ensures in
    IsTable-grown c.args.self.now c.args.page c.args.by c.in-Some.place blank c.in-Some.ensures.ordered
    (sym c.in-Some.ensures.value) c.requires (omega (arith, within.1)) (sym meets)

pub returns-clause-after : goal.returns-clause-after
returns-clause-after c =
    items-with_items c.self.inside.items _ (length-set c.deref_mut.result.now _ _ ∙ ap length c.deref_mut.ensures.value)
    ∙ rw (c.deref_mut.ensures.value ∙ c.self.view_is) (sym (law c).0)

pub invariant_of-self : goal.invariant_of-self
invariant_of-self c = rw (returns-clause-after c) (law c).1

pub returns-clause-ordered : goal.returns-clause-ordered
returns-clause-ordered c = invariant_of-self c
