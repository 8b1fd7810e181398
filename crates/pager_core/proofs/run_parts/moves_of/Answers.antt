use Rattle.std.proofs.Common.{ap, arith}
use Rattle.space_core.specs.Standing.{Kept}
use Rattle.pager_core.proofs.RunCounts.{sum-next, sum-within}
use Rattle.pager_core.proofs.run_parts.moves_of.Goals as goal

pub overflow_add-promotions : goal.overflow_add-promotions
overflow_add-promotions g c =
    let own = sum-within (λ (k : Kept). k.promotions) c.args.spaces.now c.loop-space.space-index c.space-item.result
    c.loop-space.promotions c.moves-own.result.0 c.loop-space-test.true c.space-item.is c.loop-space.invariant.0 (ap (λ m. m.0) c.moves-own.ensures)
    in omega (arith, own, c.requires.promotions)

pub overflow_add-demotions : goal.overflow_add-demotions
overflow_add-demotions g c =
    let own = sum-within (λ (k : Kept). k.demotions) c.args.spaces.now c.loop-space.space-index c.space-item.result
    c.loop-space.demotions c.moves-own.result.1 c.loop-space-test.true c.space-item.is c.loop-space.invariant.1 (ap (λ m. m.1) c.moves-own.ensures)
    in omega (arith, own, c.requires.demotions)

pub loop-space-preserved : goal.loop-space-preserved
loop-space-preserved g c = (
  sum-next (λ (k : Kept). k.promotions) c.args.spaces.now c.loop-space.space-index c.space-item.result
      c.loop-space.promotions c.moves-own.result.0 c.loop-space-test.true c.space-item.is c.loop-space.invariant.0
      (ap (λ m. m.0) c.moves-own.ensures),
  sum-next (λ (k : Kept). k.demotions) c.args.spaces.now c.loop-space.space-index c.space-item.result
      c.loop-space.demotions c.moves-own.result.1 c.loop-space-test.true c.space-item.is c.loop-space.invariant.1
      (ap (λ m. m.1) c.moves-own.ensures),
)
