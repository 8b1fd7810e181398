use Rattle.std.proofs.Common.{◌-◌, ◌≤◌, length, take, flat_map}
use Rattle.report_text.specs.Writing.{Sent, outgoing}
use Rattle.report_text.proofs.EntryAnswers.{answer_of}
use Rattle.report_text.proofs.report.put_answers_of.Given as goal

abbrev pub decreases-loop-place : goal.decreases-loop-place
decreases-loop-place g l = length l.history.items - l.from

abbrev pub invariant-loop-place : goal.invariant-loop-place
invariant-loop-place g l =
    (l.from ≤ length l.history.items)
    × Sent (outgoing (g.K.Sink.taken l.fn.sink) (g.K.Sink.writes l.fn.sink) (g.K.Sink.faults l.fn.sink) l.fn.room.bytes.items)
    (outgoing (g.K.Sink.taken l.sink) (g.K.Sink.writes l.sink) (g.K.Sink.faults l.sink) l.room.bytes.items)
    (flat_map (answer_of l.processor) (take l.from l.history.items))
