use Rattle.std.proofs.Common.{◌≡◌, take, length}
use Rattle.journal_core.specs.Places.{placed}
use Rattle.journal_core.proofs.gather.scatter.Given as goal

abbrev pub invariant-loop-entry : goal.invariant-loop-entry
invariant-loop-entry l = (l.history ≡ placed l.initial.history (take l.entry-index l.log)) × (length l.history ≡ length l.initial.history)
