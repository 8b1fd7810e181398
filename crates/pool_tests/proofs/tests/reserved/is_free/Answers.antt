use Rattle.std.proofs.Common.{◌≡◌, arith, inl, inr, sym, ap, ◌∙◌, subst, false, is_some}
use Rattle.std.proofs.lemmas.Bool.{cases_eq, false_from_ne_true, false≢true}
use Rattle.pager_model.specs.Agreement.{has_frame}
use Rattle.reservations.specs.Kept.{reservation_at}
use Rattle.pool_tests.proofs.tests.reserved.is_free.Goals as goal

pub loop-frame-preserved : goal.loop-frame-preserved
loop-frame-preserved c = λ f id low high.
    let frame = c.loop-frame.frame in
    elim (cases_eq f frame) [
      | inl here ↦
          let not_here : has_frame frame (reservation_at c.args.kept.now id) ≡ false =
          false_from_ne_true _ (λ has. let noted = (c.id_of.ensures id).1 has in
          false≢true (sym c.if-is_some.false ∙ c.is_some.ensures ∙ ap is_some noted)) in
          subst (λ n. has_frame n (reservation_at c.args.kept.now id) ≡ false) (sym here) not_here
      | inr other ↦ c.loop-frame.invariant f id low (omega arith)
    ]
