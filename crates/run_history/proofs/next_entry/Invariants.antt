use Rattle.run_history.specs.Places.{NoneIn, is_by}
use Rattle.run_history.proofs.next_entry.Given as goal

abbrev pub invariant-loop-place : goal.invariant-loop-place
invariant-loop-place l = NoneIn (is_by l.processor) l.entries l.from l.place
