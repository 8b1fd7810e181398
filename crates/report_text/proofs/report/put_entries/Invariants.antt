use Rattle.std.proofs.Common.{take, flat_map}
use Rattle.pager_model.specs.PrintedText.{history_line}
use Rattle.report_text.specs.Writing.{Sent, outgoing}
use Rattle.report_text.proofs.report.put_entries.Given as goal

abbrev pub invariant-loop-place : goal.invariant-loop-place
invariant-loop-place g l =
    Sent (outgoing (g.K.Sink.taken l.fn.sink) (g.K.Sink.writes l.fn.sink) (g.K.Sink.faults l.fn.sink) l.fn.room.bytes.items)
    (outgoing (g.K.Sink.taken l.sink) (g.K.Sink.writes l.sink) (g.K.Sink.faults l.sink) l.room.bytes.items)
    (flat_map history_line (take l.place l.history.items))
