use Rattle.std.proofs.Common.{◌≡◌, ◌+◌, ◌-◌, ◌≤◌, is_some, inl, inr, refl, ap, sym, ◌∙◌, arith}
use Rattle.std.proofs.lemmas.Bool.{OnTrue_from, OnFalse_from, cases_eq}
use Rattle.extent_tree.specs.Rows.{spot_of, is_split}
use Rattle.pager_model.proofs.Options.{none_from_is_some}
use Rattle.population_map.specs.Populations.{id_of}
use Rattle.population_map.proofs.Marks.{placed_by}
use Rattle.population_map.proofs.Placings.{spot_id, spot_split, none_further, split_is_placed, none_met}
use Rattle.population_map.proofs.placing.is_met.Goals as goal
use Rattle.population_map.proofs.placing.is_met.Goals.{After-is_split}
use Rattle.population_map.proofs.placing.is_met.Given.{Over}

pub returns-then-is_placed-clause-meets : goal.returns-then-is_placed-clause-meets
returns-then-is_placed-clause-meets g c =
    let m = c.args.tree.now in
    let id = spot_id m c.loop-above.above c.args.page c.loop-above.spot c.mark_at.result
    (omega arith) c.loop-above.invariant.seen c.mark_at.ensures in (
      c.args.page,
      refl,
      placed_by m (3 - c.loop-above.above) c.args.page (omega arith)
          (sym (ap is_some id) ∙ (sym c.is_placed.ensures ∙ c.if-is_placed.true)),
    )

pub loop-above-preserved : goal.loop-above-preserved
loop-above-preserved g c =
    let m = c.args.tree.now in
    let low : c.loop-above.above + 1 ≤ 3 = omega arith in
    let next : 3 - (2 - c.loop-above.above) ≡ c.loop-above.above + 1 = omega arith in
    record {
      seen = c.part-spot.ensures.spot ∙ (ap (λ k. spot_of m (3 - k) c.args.page) c.at_level-in-loop-above.ensures
          ∙ ap (λ h. spot_of m h c.args.page) next);
      none = none_further m c.args.page c.loop-above.above c.mark_at.result.id (omega arith)
          (spot_id m c.loop-above.above c.args.page c.loop-above.spot c.mark_at.result
          (omega arith) c.loop-above.invariant.seen c.mark_at.ensures)
          (sym c.is_placed.ensures ∙ c.if-is_placed.false) c.loop-above.invariant.none;
      cost = omega (arith, c.part-spot.ensures.cost, c.loop-above.invariant.cost);
    }

pub returns-then-is_placed-2-clause-meets : goal.returns-then-is_placed-2-clause-meets
returns-then-is_placed-2-clause-meets g c =
    let m = c.args.tree.now in
    let id = spot_id m c.loop-above.above c.args.page c.loop-above.spot c.mark_at-2.result
    (omega arith) c.loop-above.invariant.seen c.mark_at-2.ensures in (
      c.args.page,
      refl,
      placed_by m (3 - c.loop-above.above) c.args.page (omega arith)
          (sym (ap is_some id) ∙ (sym c.is_placed-2.ensures ∙ c.if-is_placed-2.true)),
    )

split : (g : Over) (c : After-is_split g) → c.is_split.result ≡ is_split c.args.tree.now c.args.size c.args.page
split g c = spot_split c.args.tree.now c.args.size c.loop-above.above c.args.page c.loop-above.spot c.is_split.result
    (omega arith) c.loop-above.invariant.seen c.is_split.ensures

pub returns-clause-meets : goal.returns-clause-meets
returns-clause-meets g c =
    OnTrue_from _ _ (λ is. split_is_placed c.args.tree.now c.args.size c.args.page c.requires
    (omega (arith, c.level-above_it.ensures.level, c.level-above_it.ensures.small)) (sym (split g c) ∙ is))

pub returns-clause-apart : goal.returns-clause-apart
returns-clause-apart g c =
    let m = c.args.tree.now in
    let id = spot_id m c.loop-above.above c.args.page c.loop-above.spot c.mark_at-2.result
    (omega arith) c.loop-above.invariant.seen c.mark_at-2.ensures in
    OnFalse_from _ _ (λ is. none_met m c.args.size c.args.page c.requires
    (omega (arith, c.level-above_it.ensures.level, c.level-above_it.ensures.small))
    (λ whole from less. elim (cases_eq whole (3 - c.loop-above.above)) [
      | inl here ↦ ap (λ k. id_of m k c.args.page) here ∙ (sym id ∙ none_from_is_some c.mark_at-2.result.id
          (sym c.is_placed-2.ensures ∙ c.if-is_placed-2.false))
      | inr apart ↦ c.loop-above.invariant.none whole (omega (arith, c.level-above_it.ensures.level)) less
    ])
    (sym (split g c) ∙ is))
