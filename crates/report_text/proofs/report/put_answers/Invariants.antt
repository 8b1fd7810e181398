use Rattle.std.proofs.Common.{flat_map, take}
use Rattle.std.specs.List.{range_with_len}
use Rattle.pager_model.specs.Legal.{entries_in}
use Rattle.pager_model.specs.PrintedText.{answers_of}
use Rattle.report_text.specs.Writing.{Sent, outgoing}
use Rattle.report_text.proofs.report.put_answers.Given as goal

abbrev pub invariant-loop-processor : goal.invariant-loop-processor
invariant-loop-processor g l =
    Sent (outgoing (g.K.Sink.taken l.fn.sink) (g.K.Sink.writes l.fn.sink) (g.K.Sink.faults l.fn.sink) l.fn.room.bytes.items)
    (outgoing (g.K.Sink.taken l.sink) (g.K.Sink.writes l.sink) (g.K.Sink.faults l.sink) l.room.bytes.items)
    (flat_map (answers_of (entries_in l.history.items)) (take l.processor (range_with_len 0 l.processors)))
