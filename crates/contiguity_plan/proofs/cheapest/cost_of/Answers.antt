use Rattle.std.proofs.Common.{◌≡◌, ◌-◌, ◌+◌, count_by, inl, inr, sym, ap, ◌∙◌, arith}
use Rattle.std.specs.List.{range_with_len}
use Rattle.std.proofs.lemmas.Bool.{cases_eq}
use Rattle.contiguity_plan.specs.Costs.{stays, has_use}
use Rattle.contiguity_plan.proofs.Extents.{emptying-none, emptying-some, count_to-more, weight-small}
use Rattle.contiguity_plan.proofs.cheapest.cost_of.Goals as goal

pub returns-then-stays : goal.returns-then-stays
returns-then-stays c =
    emptying-none (stays c.args.uses.now c.args.held.now) (has_use c.args.uses.now) c.args.first c.args.count c.loop-frame.frame
    c.loop-frame.invariant.from (omega arith) (sym c.stays.ensures ∙ c.if-stays.true)

pub loop-frame-preserved : goal.loop-frame-preserved
loop-frame-preserved c =
    let used = has_use c.args.uses.now in
    let first = c.args.first in
    let frame = c.loop-frame.frame in
    let weight = c.weight-cost.ensures in
    let small = weight-small (used frame) in
    record {
      from = omega (arith, c.loop-frame.invariant.from);
      few = omega (arith, c.loop-frame.invariant.few, c.loop-frame.invariant.from, weight, small);
      loose = λ f low below. elim (cases_eq f frame) [
        | inl same ↦ ap (stays c.args.uses.now c.args.held.now) same ∙ sym c.stays.ensures ∙ c.if-stays.false
        | inr other ↦ c.loop-frame.invariant.loose f low (omega (arith, below, other))
      ];
      cost_is =
          ap (λ n. n + c.weight-cost.result) c.loop-frame.invariant.cost_is
          ∙ ap (λ n. count_by used (range_with_len first (frame - first)) + n) weight
          ∙ sym (count_to-more used first frame c.loop-frame.invariant.from);
    }

pub returns : goal.returns
returns c =
    let used = has_use c.args.uses.now in
    let first = c.args.first in
    let long : c.loop-frame.frame - first ≡ c.args.count = omega (arith, c.loop-frame.invariant.from) in
    emptying-some (stays c.args.uses.now c.args.held.now) used first c.args.count c.loop-frame.cost
    (λ f low high. c.loop-frame.invariant.loose f low (omega (arith, high)))
    (c.loop-frame.invariant.cost_is ∙ ap (λ n. count_by used (range_with_len first n)) long)
