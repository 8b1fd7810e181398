use Rattle.std.proofs.Common.{flat_map, length, take}
use Rattle.std.specs.List.{range_with_len}
use Rattle.report_text.specs.CurveText.{curve_line}
use Rattle.report_text.specs.Writing.{Sent, outgoing}
use Rattle.report_text.proofs.curve_lines.put_capacities.Given as goal

abbrev pub invariant-loop-place : goal.invariant-loop-place
invariant-loop-place g l =
    Sent (outgoing (g.K.Sink.taken l.fn.sink) (g.K.Sink.writes l.fn.sink) (g.K.Sink.faults l.fn.sink) l.fn.room.bytes.items)
    (outgoing (g.K.Sink.taken l.sink) (g.K.Sink.writes l.sink) (g.K.Sink.faults l.sink) l.room.bytes.items)
    (flat_map (curve_line l.tiles l.pages) (take l.place (range_with_len 0 (length l.tiles))))
