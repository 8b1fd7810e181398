use Rattle.std.proofs.Common.{◌≡◌, ◌*◌, ◌/◌, ℕ, sym, subst, arith}
use Rattle.contiguity_plan.specs.Costs.{stays, has_use, emptying, IsBest}
use Rattle.contiguity_plan.proofs.cheapest.cheapest.Goals as goal

pub loop-number-preserved : goal.loop-number-preserved
loop-number-preserved c =
    c.better-best.ensures (λ (n : ℕ). emptying (stays c.args.uses.now c.args.held.now) (has_use c.args.uses.now)
    (n * c.args.count) c.args.count)
    (sym c.cost_of-cost.ensures) c.loop-number.invariant

pub returns : goal.returns
returns c =
    let whole : c.loop-number.number ≡ c.args.frames / c.args.count = omega arith in
    subst (λ k. IsBest (λ (n : ℕ). emptying (stays c.args.uses.now c.args.held.now) (has_use c.args.uses.now)
    (n * c.args.count) c.args.count) k c.loop-number.best)
    whole c.loop-number.invariant
