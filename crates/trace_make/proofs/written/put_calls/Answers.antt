use Rattle.std.proofs.Common.{[], refl}
use Rattle.pager_model.specs.TraceText.{call_line}
use Rattle.report_text.proofs.SentBytes.{sent_next, next_failed}
use Rattle.trace_make.proofs.written.put_calls.Goals as goal

pub returns-in_err-put_call : goal.returns-in_err-put_call
returns-in_err-put_call g c =
    next_failed call_line c.args.calls.now c.loop-line.line-index _ []
    (record { default = _; within = c.loop-line-test.true; is = refl })
    c.from_residual.result [] c.from_residual.ensures.0 c.loop-line.invariant c.in_err-put_call.ensures

pub loop-line-preserved : goal.loop-line-preserved
loop-line-preserved g c =
    sent_next call_line c.args.calls.now c.loop-line.line-index _ []
    (record { default = _; within = c.loop-line-test.true; is = refl })
    c.loop-line.invariant c.in_ok-put_call.ensures
