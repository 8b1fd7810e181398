use Rattle.std.proofs.Common.{◌≡◌, ◌-◌, length, arith}
use Rattle.run_history.proofs.FoundPlaces.{none_of_both, first_of_both}
use Rattle.run_history.proofs.KeptEntries.{length-items}
use Rattle.run_history.proofs.History.next_by.Goals as goal

pub returns-in_err-place-clause-none : goal.returns-in_err-place-clause-none
returns-in_err-place-clause-none c =
    let h = c.self.inside in
    let n : c.len-count.result ≡ length h.listed.items = omega arith in
    let listed = rw c.deref.ensures.value at c.in_default.ensures.none in
    let briefs = rw (c.deref-2.ensures.value, c.saturating_sub.ensures, n) at c.in_err-place.ensures.none in
    rw (c.from_residual.ensures, ← c.self.view_is, length-items h.listed.items h.whole.items h.briefs.items)
    (none_of_both h.listed.items h.whole.items h.briefs.items c.args.processor c.args.from (length h.briefs.items) listed briefs)

pub returns-clause-some : goal.returns-clause-some
returns-clause-some c =
    let h = c.self.inside in
    let n : c.len-count.result ≡ length h.listed.items = omega arith in
    let listed = rw c.deref.ensures.value at c.in_default.ensures.none in
    let briefs = rw (c.deref-2.ensures.value, c.saturating_sub.ensures, n) at c.in_ok-place.ensures.some in
    rw (← c.self.view_is, n)
    (first_of_both h.listed.items h.whole.items h.briefs.items c.args.processor c.args.from c.in_ok-place.place listed briefs)
