use Rattle.std.proofs.Common.{◌≡◌, ◌++◌, ◌-◌, sym, ap, ◌∙◌, arith}
use Rattle.std.specs.List.{range_with_len}
use Rattle.contiguity_plan.specs.Costs.{page_list, pages_in}
use Rattle.contiguity_plan.proofs.Extents.{pages_to-more}
use Rattle.contiguity_plan.proofs.cheapest.pages_of.Goals as goal

pub loop-frame-preserved : goal.loop-frame-preserved
loop-frame-preserved c =
    let uses = c.args.uses.now in
    let first = c.args.first in
    let frame = c.loop-frame.frame in
    record {
      from = omega (arith, c.loop-frame.invariant.from);
      pages_are =
          c.in_ok-push_page.ensures
          ∙ ap (λ l. l ++ page_list c.use_of.result) c.loop-frame.invariant.pages_are
          ∙ ap (λ u. pages_in uses (range_with_len first (frame - first)) ++ page_list u) c.use_of.ensures
          ∙ sym (pages_to-more uses first frame c.loop-frame.invariant.from);
    }

pub loop-frame-init : goal.loop-frame-init
loop-frame-init c =
    let first = c.args.first in
    let none : 0 ≡ first - first = omega arith in
    record {
      from = omega arith;
      pages_are = c.new-pages.ensures.items ∙ ap (λ n. pages_in c.args.uses.now (range_with_len first n)) none;
    }

pub returns : goal.returns
returns c =
    let all : c.loop-frame.frame - c.args.first ≡ c.args.count = omega arith in
    c.loop-frame.invariant.pages_are ∙ ap (λ n. pages_in c.args.uses.now (range_with_len c.args.first n)) all
