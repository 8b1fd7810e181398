use Rattle.text_tests.proofs.SampleAnswers.{answer_allowed, answer_next, filled_more}
use Rattle.text_tests.proofs.tests.history.commit_all.Goals as goal

pub commit-next_author-requires-clause-allowed : goal.commit-next_author-requires-clause-allowed
commit-next_author-requires-clause-allowed c = answer_allowed _ _ _ _ _ _ c.loop-number.invariant c.answer.ensures

pub commit-next_author-requires-clause-order : goal.commit-next_author-requires-clause-order
commit-next_author-requires-clause-order c = answer_next _ _ _ _ _ _ c.loop-number.invariant c.answer.ensures

pub loop-number-preserved : goal.loop-number-preserved
loop-number-preserved c =
    let e = c.commit-next_author.ensures in
    rw (e.author, e.pass) (filled_more _ _ _ c.commit-next_author.result.0 _ _ _ c.loop-number.invariant c.answer.ensures)
