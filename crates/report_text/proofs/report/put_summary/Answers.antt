use Rattle.std.proofs.Common.{ℕ, List, [], subst}
use Rattle.std.proofs.lemmas.List.{append-nil}
use Rattle.pager_model.specs.PrintedText.{summary_text}
use Rattle.report_text.specs.Writing.{Puts, outgoing}
use Rattle.report_text.proofs.SentBytes.{puts_then, room_failed, room_put}
use Rattle.report_text.proofs.report.put_summary.Goals as goal

pub returns-in_err-make_room-clause-puts : goal.returns-in_err-make_room-clause-puts
returns-in_err-make_room-clause-puts g c =
    room_failed c.from_residual.result _ _ (summary_text c.args.summary.now) c.from_residual.ensures.0 c.in_err-make_room.ensures.puts

pub returns-clause-puts : goal.returns-clause-puts
returns-clause-puts g c =
    let text : List ℕ = summary_text c.args.summary.now in
    let first = outgoing (g.K.Sink.taken c.args.sink.now) (g.K.Sink.writes c.args.sink.now) (g.K.Sink.faults c.args.sink.now) c.args.room.now.bytes.items in
    let two = outgoing (g.K.Sink.taken c.make_room.new.sink) (g.K.Sink.writes c.make_room.new.sink) (g.K.Sink.faults c.make_room.new.sink) c.put_summary_lines.new.text.items in
    let last = outgoing (g.K.Sink.taken c.send.new.sink) (g.K.Sink.writes c.send.new.sink) (g.K.Sink.faults c.send.new.sink) c.send.new.self.bytes.items in
    subst (λ (l : List ℕ). Puts c.send.result first last l) (append-nil text)
    (puts_then c.send.result first two last text []
    (room_put first two.taken two.writes two.faults _ c.put_summary_lines.new.text.items text c.in_ok-make_room.ensures.puts c.put_summary_lines.ensures)
    c.send.ensures.puts)
