use Rattle.std.proofs.Common.{take}
use Rattle.history_text.specs.Calls.{AreDealt}
use Rattle.history_text.proofs.calls.calls_by_processor.Given as goal

abbrev pub invariant-loop-line : goal.invariant-loop-line
invariant-loop-line l = AreDealt (λ v. v.items) l.processors (take l.line-index l.lines) l.own.items
