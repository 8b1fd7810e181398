use Rattle.std.proofs.Common.{sym, ap, ◌∙◌, arith}
use Rattle.history_text.specs.HistoryText.{call_at}
use Rattle.history_text.proofs.DealtCalls.{past_processors, small_number}
use Rattle.history_text.proofs.Words.{one_number}
use Rattle.history_text.proofs.calls.TraceCalls.named.Goals as goal

pub returns-then-processor-processors-clause-none : goal.returns-then-processor-processors-clause-none
returns-then-processor-processors-clause-none c = λ n there same. there (rw (← c.self.view_is)
    (past_processors c.self.inside.trace.now c.args.processor n c.processors.ensures.text (omega arith)))

pub returns-in_err-number-clause-none : goal.returns-in_err-number-clause-none
returns-in_err-number-clause-none c = rw c.from_residual.ensures (λ n there same. c.in_err-number.ensures.none n
    (small_number c.self.inside.trace.now c.args.processor n c.processors.ensures.text (rw c.self.view_is there)) same)

pub returns-in_err-call-clause-none : goal.returns-in_err-call-clause-none
returns-in_err-call-clause-none c = rw c.from_residual-in_err-call.ensures (λ n there same.
    let low = small_number c.self.inside.trace.now c.args.processor n c.processors.ensures.text (rw c.self.view_is there) in
    let number = one_number c.args.word.now n c.in_ok-number.number (omega (arith, low)) (omega arith) same c.in_ok-number.ensures.some in
    there (ap (call_at c.args.self.now c.args.processor) number ∙ sym c.in_err-call.ensures))
