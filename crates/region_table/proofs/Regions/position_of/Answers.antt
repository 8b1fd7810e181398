use Rattle.std.proofs.Common.{sym, ◌∙◌, arith}
use Rattle.region_table.proofs.TableLemmas.{begins_by-below, place-none, place-some, place-ended, blank}
use Rattle.region_table.proofs.Regions.position_of.Goals as goal

pub returns-in_err-place-clause-value : goal.returns-in_err-place-clause-value
returns-in_err-place-clause-value c =
    let known = c.count_up_to.ensures in
    c.from_residual.ensures ∙ sym (place-none 0 c.args.self.now known.ordered.in_order c.args.page c.count_up_to.result blank known.value
    (λ k h. absurd (c.in_err-place.ensures (omega arith))))

pub overflow_sub-page : goal.overflow_sub-page
overflow_sub-page c =
    rw (c.deref.ensures.0 ∙ c.self.view_is) (begins_by-below c.args.page c.args.self.now c.in_ok-place.place blank
    (omega (arith, c.count_up_to.ensures.value, c.in_ok-place.ensures)))

pub returns-then-page-region-clause-value : goal.returns-then-page-region-clause-value
returns-then-page-region-clause-value c =
    let has = rw (c.deref.ensures.0 ∙ c.self.view_is) at c.if-page-region.true in
    sym (place-some 0 c.args.self.now c.count_up_to.ensures.ordered.in_order c.args.page c.in_ok-place.place blank
    (omega (arith, c.count_up_to.ensures.value, c.in_ok-place.ensures)) (omega arith))

pub returns-else-page-region-clause-value : goal.returns-else-page-region-clause-value
returns-else-page-region-clause-value c =
    let ended = rw (c.deref.ensures.0 ∙ c.self.view_is) at c.if-page-region.false in
    let begun = begins_by-below c.args.page c.args.self.now c.in_ok-place.place blank
    (omega (arith, c.count_up_to.ensures.value, c.in_ok-place.ensures)) in
    sym (place-ended 0 c.args.self.now c.count_up_to.ensures.ordered.in_order c.args.page c.in_ok-place.place blank
    (omega (arith, c.count_up_to.ensures.value, c.in_ok-place.ensures)) (omega arith))
