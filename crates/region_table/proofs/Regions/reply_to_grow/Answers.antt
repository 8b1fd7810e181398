use Rattle.std.proofs.Common.{true, false, sym, ap, ◌∙◌, arith}
use Rattle.pager_model.specs.Regions.{grow_reply_at}
use Rattle.region_table.proofs.TableLemmas.{blank, find-at_none, grow_reply-kept, grow_reply-far, grow_reply-near, end-le}
use Rattle.region_table.proofs.Regions.reply_to_grow.Goals as goal

pub returns-in_default : goal.returns-in_default
returns-in_default c =
    sym (ap (grow_reply_at c.args.self.now c.args.by) (find-at_none _ c.args.self.now (sym c.in_default.ensures.value)))

pub overflow_sub-end : goal.overflow_sub-end
overflow_sub-end c =
    rw (c.deref.ensures.0 ∙ c.self.view_is)
    ((end-le 0 c.args.self.now c.in-Some.ensures.ordered.in_order c.in-Some.place blank c.in-Some.ensures.within).1)

pub overflow_add-end : goal.overflow_add-end
overflow_add-end c = omega (arith, overflow_sub-end c)

pub returns-then-ne : goal.returns-then-ne
returns-then-ne c =
    sym (grow_reply-kept c.args.self.now c.args.page c.args.by c.in-Some.place c.in-Some.ensures.value
    (rw (c.deref.ensures.0 ∙ c.self.view_is) at c.if-ne.ensures))

pub returns-then-by-end : goal.returns-then-by-end
returns-then-by-end c =
    let far = rw (c.deref.ensures.0 ∙ c.self.view_is) at c.if-by-end.true in
    sym (grow_reply-far c.args.self.now c.args.page c.args.by c.in-Some.place c.in-Some.ensures.value
    (rw (c.deref.ensures.0 ∙ c.self.view_is) at c.if-ne.ensures) (omega arith))

pub returns-then-meets : goal.returns-then-meets
returns-then-meets c =
    let near = rw (c.deref.ensures.0 ∙ c.self.view_is) at c.if-by-end.false in
    let within = end-le 0 c.args.self.now c.in-Some.ensures.ordered.in_order c.in-Some.place blank c.in-Some.ensures.within in
    sym (grow_reply-near c.args.self.now c.args.page c.args.by c.in-Some.place c.in-Some.ensures.value
    (rw (c.deref.ensures.0 ∙ c.self.view_is) at c.if-ne.ensures) true (omega (arith, within.1))
    (rw (c.deref.ensures.0 ∙ c.self.view_is) at c.if-meets.ensures))

pub returns : goal.returns
returns c =
    let near = rw (c.deref.ensures.0 ∙ c.self.view_is) at c.if-by-end.false in
    let within = end-le 0 c.args.self.now c.in-Some.ensures.ordered.in_order c.in-Some.place blank c.in-Some.ensures.within in
    sym (grow_reply-near c.args.self.now c.args.page c.args.by c.in-Some.place c.in-Some.ensures.value
    (rw (c.deref.ensures.0 ∙ c.self.view_is) at c.if-ne.ensures) false (omega (arith, within.1))
    (rw (c.deref.ensures.0 ∙ c.self.view_is) at c.if-meets.ensures))
