use Rattle.std.proofs.Common.{◌≡◌, ℕ, ◌/◌, ◌^◌, Bool, Option, sym, ap, ◌∙◌, option_map, arith}
use Rattle.pager_model.specs.declared.reservation.Reservation.{Reservation}
use Rattle.pager_model.specs.Layouts.{Layout}
use Rattle.pager_model.specs.Records.{is_used, part_at, part_count, yield_in, same_size}
use Rattle.pager_model.proofs.ExtentLemmas.{eight_pos, eight_quotient}
use Rattle.frame_pool.proofs.RecordSearch.{same_size-is, find_none}
use Rattle.pager_model.proofs.Ranges.{find_first}
use Rattle.frame_pool.proofs.reserved.Reserved.lowest_as_wide.Goals as goal
use Rattle.frame_pool.proofs.reserved.Reserved.lowest_as_wide.Goals.{After-pages-2, After-eq}

-- how many parts there are
counted : (c : After-pages-2) → c.pages.result / c.pages-2.result ≡ part_count c.args.size c.args.whole.now
counted c = ap (λ n. n / c.pages-2.result) c.pages.ensures ∙ ap (λ n. 8 ^ c.args.whole.now.size / n) c.pages-2.ensures
    ∙ eight_quotient c.args.size c.args.whole.now.size (omega (arith, c.requires.splits))

pub nonzero_div-i-end : goal.nonzero_div-i-end
nonzero_div-i-end c = omega (arith, c.pages-2.ensures, eight_pos c.args.size)

pub part_at-part-requires-clause-one : goal.part_at-part-requires-clause-one
part_at-part-requires-clause-one c =
    omega (arith, c.loop-i-test.true, counted (goal.at.part_at-part-requires-clause-one c).After-pages-2)

pub yields-requires : goal.yields-requires
yields-requires c = rw c.part_at-part.ensures
    (c.requires.parts c.loop-i.i (omega (arith, c.loop-i-test.true, counted (goal.at.yields-requires c).After-pages-2)))

-- a part of the whole yields as much as the whole
abbrev as_wide : Layout → ℕ → Reservation → ℕ → Bool
as_wide l size r i = same_size (yield_in l.sizes (is_used l.used) (part_at size r i)) (yield_in l.sizes (is_used l.used) r)

-- whether this one does is told
tells : (c : After-eq) → as_wide c.args.self.now c.args.size c.args.whole.now c.loop-i.i ≡ c.eq.result
tells c =
    let l = c.args.self.now in
    let yields : Reservation → Option ℕ = yield_in l.sizes (is_used l.used) in
    ap (λ q. same_size (yields q) (yields c.args.whole.now)) (sym c.part_at-part.ensures)
    ∙ ap (λ y. same_size y (yields c.args.whole.now)) (sym c.yields.ensures) ∙ ap (same_size c.yields.result) (sym c.requires.yields)
    ∙ sym (c.eq.ensures ∙ same_size-is c.yields.result c.args.yields)

pub returns-then-eq : goal.returns-then-eq
returns-then-eq c =
    let r = c.args.whole.now in
    let test = as_wide c.args.self.now c.args.size r in
    let found = find_first test 0 (part_count c.args.size r) c.loop-i.i (λ k _ below. c.loop-i.invariant k below) (omega arith)
    (omega (arith, c.loop-i-test.true, counted (goal.at.returns-then-eq c).After-pages-2))
    (tells (goal.at.returns-then-eq c).After-eq ∙ c.if-eq.true) in
    rw c.part_at-part.ensures (ap (option_map (part_at c.args.size r)) (sym found))

pub returns : goal.returns
returns c =
    let r = c.args.whole.now in
    let count = counted (goal.at.returns c).After-pages-2 in
    let none = find_none (as_wide c.args.self.now c.args.size r) 0 (part_count c.args.size r) (λ k _ below. c.loop-i.invariant k
    (omega (arith, below, count, c.loop-i-test.false))) in
    ap (option_map (part_at c.args.size r)) (sym none)
