use Rattle.std.proofs.Common.{◌≡◌, ◌-◌, suc, None, sym, ap, subst, ◌∙◌, arith}
use Rattle.std.proofs.lemmas.Option.{IfSome_then}
use Rattle.frame_pool.specs.Placed.{FindsExtent, extent_there}
use Rattle.frame_pool.proofs.BreakSteps.{IfNone-holds}
use Rattle.frame_pool.proofs.TakenExtent.{largest_below, largest_below-found, largest_below-missed}
use Rattle.frame_pool.proofs.layout.Layout.largest_extent.Goals as goal

pub returns-then-is_some-clause-found : goal.returns-then-is_some-clause-found
returns-then-is_some-clause-found c =
    let l = c.loop-level.self in
    let of = rw c.unwrap-size.ensures at c.of.ensures in
    let next : c.loop-level.level ≡ suc c.unwrap-size.result = omega (arith, of.1, c.loop-level-test.true) in
    IfSome_then c.extent_there-found.result c.extent_there-found.ensures.found (λ f finds.
    subst (λ o. FindsExtent c.extent_there-found.new.self o f.size f.first f.broken)
    (largest_below-found l c.loop-level.level c.unwrap-size.result finds.found next finds.is ∙ c.loop-level.invariant.rest) finds)

pub loop-level-preserved : goal.loop-level-preserved
loop-level-preserved c =
    let l = c.loop-level.self in
    let of = rw c.unwrap-size.ensures at c.of.ensures in
    let next : c.loop-level.level ≡ suc c.unwrap-size.result = omega (arith, of.1, c.loop-level-test.true) in
    let missed = IfNone-holds c.extent_there-found.result (extent_there c.unwrap-size.result l ≡ None × c.extent_there-found.new.self ≡ l)
    (sym c.is_some.ensures ∙ c.if-is_some.false) c.extent_there-found.ensures.none in
    record {
      same = missed.1 ∙ c.loop-level.invariant.same;
      rest =
          ap (largest_below (c.loop-level.level - 1)) missed.1
          ∙ sym (ap (λ n. largest_below n l) of.1)
          ∙ sym (largest_below-missed l c.loop-level.level c.unwrap-size.result next missed.0)
          ∙ c.loop-level.invariant.rest;
    }
