use Rattle.std.proofs.Common.{sym, ◌∙◌, arith}
use Rattle.size_policy.proofs.Sizes.{preferred_is, none_from_one_below}
use Rattle.size_policy.proofs.preferred.Goals as goal

pub returns-then-may_reserve-clause-exact : goal.returns-then-may_reserve-clause-exact
returns-then-may_reserve-clause-exact g c = λ test told.
    preferred_is test c.args.page c.args.want.now c.at_level-size.result (omega arith)
    (λ j above small. c.loop-level.invariant test told j (omega arith) small)
    (λ _. sym (c.may_reserve.ensures.exact test told) ∙ c.if-may_reserve.true)

pub loop-level-preserved : goal.loop-level-preserved
loop-level-preserved g c = λ test told.
    none_from_one_below test c.args.page c.args.want.now c.loop-level.level c.at_level-size.result c.at_level-size.ensures
    (c.loop-level.invariant test told) (sym (c.may_reserve.ensures.exact test told) ∙ c.if-may_reserve.false)

pub returns-clause-exact : goal.returns-clause-exact
returns-clause-exact g c = λ test told.
    preferred_is test c.args.page c.args.want.now c.at_level.result (omega arith)
    (λ j above small. c.loop-level.invariant test told j (omega arith) small) (λ h. absurd (omega arith))
