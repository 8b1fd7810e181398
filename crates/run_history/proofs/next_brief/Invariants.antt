use Rattle.std.proofs.Common.{◌==◌}
use Rattle.run_history.specs.Places.{NoneIn}
use Rattle.run_history.proofs.next_brief.Given as goal

abbrev pub invariant-loop-place : goal.invariant-loop-place
invariant-loop-place l = NoneIn (λ b. b.processor == l.processor) l.briefs l.from l.place
