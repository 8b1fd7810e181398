use Rattle.std.proofs.Common.{[]}
use Rattle.history_text.specs.Calls.{AreDealt}
use Rattle.history_text.proofs.calls.no_calls.Given as goal

abbrev pub invariant-rows : goal.invariant-rows
invariant-rows l = AreDealt (λ v. v.items) l.counter [] l.own.items
