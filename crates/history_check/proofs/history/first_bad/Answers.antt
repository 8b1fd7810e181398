use Rattle.std.proofs.Common.{take, sym, subst, arith}
use Rattle.pager_model.specs.declared.entry.Numbered.{Numbered}
use Rattle.pager_model.specs.Legal.{MayFollow, entries_in}
use Rattle.history_check.proofs.FirstBad.{IsFirstBad-at}
use Rattle.history_check.proofs.history.first_bad.Goals as goal

pub returns-then-not-branch-clause-bad : goal.returns-then-not-branch-clause-bad
returns-then-not-branch-clause-bad c = λ g start.
    let history = c.args.history.now in
    let stands = c.loop-place.invariant g start in
    IsFirstBad-at g history c.loop-place.place c.index-history-place.result (omega arith) c.index-history-place.is stands.legal
    (subst (λ (n : Numbered). MayFollow g (entries_in (take c.loop-place.place history)) n.entry → ⊥) (sym c.index-history-place.is)
    (c.in_ok-judge.ensures.may_not c.if-not-branch.true g (entries_in (take c.loop-place.place history)) stands))
