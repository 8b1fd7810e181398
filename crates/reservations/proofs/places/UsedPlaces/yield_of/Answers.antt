use Rattle.std.proofs.Common.{sym, ◌∙◌, arith, ap}
use Rattle.std.proofs.lemmas.Bool.{not-true, not-false, eq-eqb, ne_eqb}
use Rattle.pager_model.specs.Records.{is_used}
use Rattle.pager_model.proofs.ExtentLemmas.{eight_pos}
use Rattle.reservations.proofs.YieldLemmas.{yield_of-full, full_count, whole_count, has_parts, found_at, missed_at, yield_below, yield_below-found, yield_below-missed, has_empty-counted}
use Rattle.reservations.proofs.places.UsedPlaces.yield_of.Goals as goal

pub count-requires-clause-known : goal.count-requires-clause-known
count-requires-clause-known c = omega (arith, eight_pos c.args.whole.now.size, c.requires.within)

pub returns-then-used-pages : goal.returns-then-used-pages
returns-then-used-pages c =
    let r = c.args.whole.now in
    let full = full_count c.args.self.now r _ _ (c.from-used.ensures ∙ c.count.ensures) c.pages.ensures in
    sym (yield_of-full (is_used c.args.self.now) r (not-true _ (sym full ∙ eq-eqb _ _ c.if-used-pages.true)))

pub returns-then-used-eq0 : goal.returns-then-used-eq0
returns-then-used-eq0 c =
    let r = c.args.whole.now in
    let whole = whole_count c.args.self.now r _ (c.from-used.ensures ∙ c.count.ensures) in
    sym (found_at (is_used c.args.self.now) r r.size (sym whole ∙ eq-eqb _ _ c.if-used-eq0.true))

pub loop-level-init : goal.loop-level-init
loop-level-init c =
    let r = c.args.whole.now in
    let used = is_used c.args.self.now in
    let full = full_count c.args.self.now r _ _ (c.from-used.ensures ∙ c.count.ensures) c.pages.ensures in
    let whole = whole_count c.args.self.now r _ (c.from-used.ensures ∙ c.count.ensures) in
    let some = not-false _ (sym full ∙ ne_eqb _ _ c.if-used-pages.false) in
    let no_whole = sym whole ∙ ne_eqb _ _ c.if-used-eq0.false in
    rw c.level-level.ensures.level (has_parts used r some no_whole, sym (missed_at used r r.size no_whole))

pub returns-then-contains : goal.returns-then-contains
returns-then-contains c =
    let r = c.args.whole.now in
    let used = c.args.self.now in
    let size = c.at_level-size.result in
    let some = has_empty-counted used r size c.counts_in.result.now c.counts_in.ensures in
    let found = yield_below-found (is_used used) r c.loop-level.level size (omega (arith, c.at_level-size.ensures, c.loop-level-test.true))
    (sym some ∙ sym c.contains.ensures.value ∙ c.if-contains.true) in
    sym found ∙ c.loop-level.invariant.1

pub loop-level-preserved : goal.loop-level-preserved
loop-level-preserved c =
    let r = c.args.whole.now in
    let used = c.args.self.now in
    let size = c.at_level-size.result in
    let some = has_empty-counted used r size c.counts_in.result.now c.counts_in.ensures in
    let missed = yield_below-missed (is_used used) r c.loop-level.level size
    (omega (arith, c.at_level-size.ensures, c.loop-level-test.true)) (sym some ∙ sym c.contains.ensures.value ∙ c.if-contains.false) in (
      omega (arith, c.loop-level-test.true),
      ap (yield_below (is_used used) r) (sym c.at_level-size.ensures) ∙ sym missed
          ∙ c.loop-level.invariant.1,
    )

pub returns : goal.returns
returns c =
    let r = c.args.whole.now in
    let used = is_used c.args.self.now in
    let full = full_count c.args.self.now r _ _ (c.from-used.ensures ∙ c.count.ensures) c.pages.ensures in
    let some = not-false _ (sym full ∙ ne_eqb _ _ c.if-used-pages.false) in
    let base = yield_below-found used r c.loop-level.level 0 (omega (arith, c.loop-level-test.false, c.loop-level.invariant.0)) some in
    rw c.at_level.ensures (sym base ∙ c.loop-level.invariant.1)
