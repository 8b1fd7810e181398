use Rattle.std.proofs.Common.{take, flat_map}
use Rattle.report_text.specs.PlanText.{page_line}
use Rattle.report_text.specs.Writing.{Sent, outgoing}
use Rattle.report_text.proofs.plan_lines.put_pages.Given as goal

abbrev pub invariant-loop-page : goal.invariant-loop-page
invariant-loop-page g l =
    Sent (outgoing (g.K.Sink.taken l.fn.sink) (g.K.Sink.writes l.fn.sink) (g.K.Sink.faults l.fn.sink) l.fn.room.bytes.items)
    (outgoing (g.K.Sink.taken l.sink) (g.K.Sink.writes l.sink) (g.K.Sink.faults l.sink) l.room.bytes.items)
    (flat_map page_line (take l.page-index l.pages))
