use Rattle.std.proofs.Common.{ap, sym, ◌∙◌}
use Rattle.std.specs.List.{slice_get}
use Rattle.report_text.specs.Writing.{outgoing}
use Rattle.report_text.proofs.EntryAnswers.{answers-at, line_of}
use Rattle.report_text.proofs.SentBytes.{room_failed, room_put}
use Rattle.report_text.proofs.report.put_answer_of.Goals as goal

pub returns-in_err-make_room : goal.returns-in_err-make_room
returns-in_err-make_room g c = room_failed c.from_residual.result _ _ _ c.from_residual.ensures.0 c.in_err-make_room.ensures.puts

pub returns : goal.returns
returns g c =
    let by = c.args.processor in
    let first = outgoing (g.K.Sink.taken c.args.sink.now) (g.K.Sink.writes c.args.sink.now) (g.K.Sink.faults c.args.sink.now) c.args.room.now.bytes.items in
    rw (answers-at by (slice_get c.args.history.now.items c.args.place) ∙ ap (line_of by) (sym c.answer_by.ensures ∙ c.in-Some.is))
    (room_put first _ _ _ _ _ _ c.in_ok-make_room.ensures.puts c.put_answer.ensures)
