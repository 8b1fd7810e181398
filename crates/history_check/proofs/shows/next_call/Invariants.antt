use Rattle.std.proofs.Common.{◌≡◌, drop}
use Rattle.pager_model.specs.Showing.{calls_of}
use Rattle.history_check.proofs.shows.next_call.Given as goal

-- the lines that were passed over have no call of the processor
abbrev pub invariant-loop-place : goal.invariant-loop-place
invariant-loop-place l = calls_of l.processor (drop l.from l.lines) ≡ calls_of l.processor (drop l.place l.lines)
