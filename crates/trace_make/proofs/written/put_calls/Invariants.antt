use Rattle.std.proofs.Common.{take, flat_map}
use Rattle.pager_model.specs.TraceText.{call_line}
use Rattle.report_text.specs.Writing.{Sent, outgoing}
use Rattle.trace_make.proofs.written.put_calls.Given as goal

abbrev pub invariant-loop-line : goal.invariant-loop-line
invariant-loop-line g l =
    Sent (outgoing (g.K.Sink.taken l.fn.sink) (g.K.Sink.writes l.fn.sink) (g.K.Sink.faults l.fn.sink) l.fn.room.bytes.items)
    (outgoing (g.K.Sink.taken l.sink) (g.K.Sink.writes l.sink) (g.K.Sink.faults l.sink) l.room.bytes.items)
    (flat_map call_line (take l.line-index l.calls))
