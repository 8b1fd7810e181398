use Rattle.std.proofs.Common.{IsSome, ap, sym, subst, ◌∙◌}
use Rattle.pager_model.specs.FrameStates.{give_if_used}
use Rattle.pager_model.proofs.Ranges.{bounds_in}
use Rattle.pager_laws.proofs.GivenRanges.{give_range-none}
use Rattle.pager_laws.proofs.StateSoundness.{IsSound-give_if_used}
use Rattle.contiguity_plan.specs.Places.{place_in}
use Rattle.contiguity_plan.specs.Tables.{IsRight}
use Rattle.contiguity_plan.proofs.RightTables.{lowest-gives}
use Rattle.contiguity_plan.proofs.table.Table.clear.Goals as goal

pub loop-page-preserved : goal.loop-page-preserved
loop-page-preserved c = record {
  spaces = c.give.ensures.spaces ∙ c.loop-page.invariant.spaces;
  right = λ frames processors st sound right.
      let now = c.loop-page.invariant.right frames processors st sound right in (
        give_if_used c.args.space now.0 c.in-Some.page,
        IsSound-give_if_used frames processors now.0 c.args.space c.in-Some.page now.1,
        c.give.ensures.right frames processors now.0 now.1 now.2,
        lowest-gives now.0 c.loop-page.self.places.items c.args.space c.args.first c.args.count c.in-Some.page
            now.1.laid now.2.places_are c.in-Some.ensures.within
            (subst (λ ps. IsSome (place_in ps c.args.space c.in-Some.page)) c.deref.ensures.value c.in-Some.ensures.some)
            (λ p below within. ap (λ ps. place_in ps c.args.space p) (sym c.deref.ensures.value) ∙ c.in-Some.ensures.lowest p below within)
            ∙ now.3,
      );
}

pub returns-clause-right : goal.returns-clause-right
returns-clause-right c = λ frames processors st sound right.
    let now = c.loop-page.invariant.right frames processors st sound right in
    subst (λ s. IsRight s c.loop-page.self)
    (sym (give_range-none c.args.space now.0 c.args.first c.args.count
    (λ p low high. sym (now.2.places_are c.args.space p) ∙ ap (λ ps. place_in ps c.args.space p) (sym c.deref.ensures.value)
    ∙ c.in_default.ensures.none p (bounds_in c.args.first c.args.count p low high))) ∙ now.3)
    now.2
