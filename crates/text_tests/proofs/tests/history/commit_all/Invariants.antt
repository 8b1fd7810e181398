use Rattle.text_tests.specs.Samples.{Filled}
use Rattle.text_tests.proofs.tests.history.commit_all.Given as goal

abbrev pub invariant-loop-number : goal.invariant-loop-number
invariant-loop-number l = Filled l.journal.name l.processor l.number l.author l.pass
