use Rattle.std.proofs.Common.{◌≡◌, ◌+◌, ◌-◌, ◌≤◌, true, false, find, sym, ap, ◌∙◌, arith}
use Rattle.std.specs.List.{range_with_len}
use Rattle.pager_model.specs.FrameStates.{is_claimed_in, is_claimed_page}
use Rattle.frame_pool.proofs.PinnedRanges.{find_from, find_here, find_later, unclaimed_without}
use Rattle.frame_pool.proofs.pins.lowest_claimed.Goals as goal

pub loop-place-preserved : goal.loop-place-preserved
loop-place-preserved c =
    let l = c.args.layout.now in
    let used = c.args.used.now.frames in
    let space = c.args.space in
    let test = is_claimed_page l used space in
    let end = c.args.first + c.args.length in
    let page = c.in-Some.place.page in
    let range = c.in-Some.ensures.range in
    let unclaimed : test page ≡ false =
    ap (is_claimed_in used) c.in-Some.ensures.place ∙ sym c.is_claimed.ensures ∙ c.if-is_claimed.false in
    let one_less : end - page - 1 ≡ end - (page + 1) = omega arith in
    let at_most : page ≤ end = omega (arith, range.1) in
    record {
      within = omega (arith, range.1);
      rest =
          c.loop-place.invariant.rest
          ∙ find_from test c.loop-place.from page end range.0 at_most
          (λ i low below. unclaimed_without l used space i (c.in-Some.ensures.lowest i low below))
          ∙ find_later test page (end - page) (omega (arith, range.1)) unclaimed
          ∙ ap (λ n. find test (range_with_len (page + 1) n)) one_less;
    }

pub returns-then-is_claimed-clause-found : goal.returns-then-is_claimed-clause-found
returns-then-is_claimed-clause-found c =
    let l = c.args.layout.now in
    let used = c.args.used.now.frames in
    let space = c.args.space in
    let test = is_claimed_page l used space in
    let end = c.args.first + c.args.length in
    let page = c.in-Some.place.page in
    let range = c.in-Some.ensures.range in
    let claimed : test page ≡ true =
    ap (is_claimed_in used) c.in-Some.ensures.place ∙ sym c.is_claimed.ensures ∙ c.if-is_claimed.true in
    let at_most : page ≤ end = omega (arith, range.1) in (
      c.loop-place.invariant.rest
          ∙ find_from test c.loop-place.from page end range.0 at_most
          (λ i low below. unclaimed_without l used space i (c.in-Some.ensures.lowest i low below))
          ∙ find_here test page (end - page) (omega (arith, range.1)) claimed,
      c.in-Some.ensures.place,
    )

pub returns-clause-none : goal.returns-clause-none
returns-clause-none c =
    let l = c.args.layout.now in
    let used = c.args.used.now.frames in
    let space = c.args.space in
    let test = is_claimed_page l used space in
    let end = c.args.first + c.args.length in
    let itself : end ≤ end = omega arith in
    let nothing : end - end ≡ 0 = omega arith in
    c.loop-place.invariant.rest
    ∙ find_from test c.loop-place.from end end c.loop-place.invariant.within itself
    (λ i low below. unclaimed_without l used space i (c.in_default.ensures.none i low below))
    ∙ ap (λ n. find test (range_with_len end n)) nothing
