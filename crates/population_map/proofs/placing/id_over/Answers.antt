use Rattle.std.proofs.Common.{◌≡◌, ◌+◌, ◌-◌, ap, sym, ◌∙◌, arith}
use Rattle.extent_tree.specs.Rows.{spot_of}
use Rattle.population_map.specs.Populations.{id_of}
use Rattle.population_map.proofs.Placings.{spot_id, found, found_last, none_further}
use Rattle.population_map.proofs.placing.id_over.Goals as goal

pub returns-then-is_some-clause-found : goal.returns-then-is_some-clause-found
returns-then-is_some-clause-found g c =
    found c.args.tree.now (3 - c.loop-below.below) c.args.page c.get-id.result (omega arith)
    (c.get-id.ensures ∙ spot_id c.args.tree.now c.loop-below.below c.args.page c.loop-below.spot c.mark_at.result
    (omega arith) c.loop-below.invariant.seen c.mark_at.ensures)
    (sym c.is_some.ensures ∙ c.if-is_some.true)

pub loop-below-preserved : goal.loop-below-preserved
loop-below-preserved g c =
    let next : 3 - (2 - c.loop-below.below) ≡ c.loop-below.below + 1 = omega arith in
    record {
      seen = c.part-spot.ensures.spot ∙ (ap (λ k. spot_of c.args.tree.now (3 - k) c.args.page) c.at_level-in-loop-below.ensures
          ∙ ap (λ h. spot_of c.args.tree.now h c.args.page) next);
      none = none_further c.args.tree.now c.args.page c.loop-below.below c.get-id.result (omega arith)
          (c.get-id.ensures ∙ spot_id c.args.tree.now c.loop-below.below c.args.page c.loop-below.spot c.mark_at.result
          (omega arith) c.loop-below.invariant.seen c.mark_at.ensures)
          (sym c.is_some.ensures ∙ c.if-is_some.false) c.loop-below.invariant.none;
      cost = omega (arith, c.part-spot.ensures.cost, c.loop-below.invariant.cost);
    }

pub returns-clause-found : goal.returns-clause-found
returns-clause-found g c =
    let last : c.loop-below.below ≡ 3 = omega arith in
    let page_size : 3 - c.loop-below.below ≡ 0 = omega arith in
    found_last c.args.tree.now c.args.page c.get.result
    (c.get.ensures ∙ (spot_id c.args.tree.now c.loop-below.below c.args.page c.loop-below.spot c.mark_at-2.result
    (omega arith) c.loop-below.invariant.seen c.mark_at-2.ensures ∙ ap (λ k. id_of c.args.tree.now k c.args.page) page_size))
    (λ size low small. c.loop-below.invariant.none size (omega arith) small)
