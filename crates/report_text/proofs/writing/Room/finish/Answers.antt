use Rattle.std.proofs.Common.{ℕ, List, [], ◌∷◌, codes, subst}
use Rattle.std.proofs.lemmas.List.{append-nil}
use Rattle.pager_model.specs.TraceText.{line_of_words}
use Rattle.report_text.specs.Writing.{Puts, outgoing}
use Rattle.report_text.proofs.SentBytes.{puts_then, room_put}
use Rattle.report_text.proofs.writing.Room.finish.Goals as goal

pub returns-clause-puts : goal.returns-clause-puts
returns-clause-puts g c =
    let text : List ℕ = line_of_words (codes "end" ∷ []) in
    let first = outgoing (g.K.Sink.taken c.args.sink.now) (g.K.Sink.writes c.args.sink.now) (g.K.Sink.faults c.args.sink.now) c.args.self.now.bytes.items in
    let two = outgoing (g.K.Sink.taken c.make_room.new.sink) (g.K.Sink.writes c.make_room.new.sink) (g.K.Sink.faults c.make_room.new.sink) c.put_last.new.text.items in
    let last = outgoing (g.K.Sink.taken c.send.new.sink) (g.K.Sink.writes c.send.new.sink) (g.K.Sink.faults c.send.new.sink) c.send.new.self.bytes.items in
    subst (λ (l : List ℕ). Puts c.send.result first last l) (append-nil text)
    (puts_then c.send.result first two last text []
    (room_put first two.taken two.writes two.faults _ c.put_last.new.text.items text c.in_ok-make_room.ensures.puts c.put_last.ensures)
    c.send.ensures.puts)
