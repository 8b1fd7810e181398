use Rattle.std.proofs.Common.{◌+◌, arith, length, refl}
use Rattle.space_core.proofs.SameView.{as_fields}
use Rattle.space_core.proofs.ClearedRanges.{clears_page, clears_range, scanned_from}
use Rattle.space_core.proofs.ServedPages.{scanned_kept}
use Rattle.space_core.proofs.Translations.{saturated}
use Rattle.space_core.proofs.space.Space.clear_next.Goals as goal

pub returns-in_default-clause-none : goal.returns-in_default-clause-none
returns-in_default-clause-none g c =
    let e = c.begin_clearing-from.ensures in
    let none = c.in_default.ensures.none in
    rw (c.keep_tiles.ensures, c.saturating_add-self-inside.ensures, c.from.ensures, saturated, none.1)
    (clears_range c.args.self.now (as_fields c.self.view_is) c.args.range.first c.args.range.length c.begin_clearing-from.result
    (record { begins = rw (← c.self.view_is) at e.counts; begun = e.begun; before = e.done }) _ none.0 refl)

pub overflow_add-self : goal.overflow_add-self
overflow_add-self g c = omega (arith, c.requires.in_space, c.in-Some.ensures.some.0.before_end)

pub invariant_of-self-2 : goal.invariant_of-self-2
invariant_of-self-2 g c =
    let e = c.begin_clearing-from.ensures in
    let taken = c.in-Some.ensures.some in
    scanned_kept (as_fields c.self.view_is) c.take_next.new.self _ c.in-Some.page c.self.invariant taken.2
    (scanned_from c.args.self.now (as_fields c.self.view_is) c.args.range.first c.args.range.length c.begin_clearing-from.result
    (record {
      begins = rw (← c.self.view_is) at e.counts;
      begun = e.begun;
      before = e.done;
    }) (c.args.range.first + c.args.range.length) c.in-Some.page taken.0)

pub returns-clause-some : goal.returns-clause-some
returns-clause-some g c =
    let mid = as_fields c.self.view_is in
    let u = c.take_next.new.self in
    let e = c.begin_clearing-from.ensures in
    let taken = c.in-Some.ensures.some in
    clears_page c.args.self.now mid c.args.range.first c.args.range.length c.begin_clearing-from.result
    (record {
      begins = rw (← c.self.view_is) at e.counts;
      begun = e.begun;
      before = e.done;
    }) (record mid { frames = length u.frames; table = u })
    c.in-Some.page (rw taken.2.same.count refl) taken.0 taken.2 _ taken.1
