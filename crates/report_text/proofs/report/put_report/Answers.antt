use Rattle.std.proofs.Common.{ℕ, List, ◌∷◌, [], ◌++◌, if◌then◌else◌}
use Rattle.pager_model.specs.Legal.{entries_in}
use Rattle.pager_model.specs.PrintedText.{answers_text, history_text, summary_text}
use Rattle.report_text.specs.Parts.{has_history}
use Rattle.report_text.specs.Writing.{outgoing}
use Rattle.report_text.proofs.SentBytes.{puts_failed, puts_then, sent_sent, sent_part}
use Rattle.report_text.proofs.report.put_report.Goals as goal

pub returns-in_err-put_answers-clause-puts : goal.returns-in_err-put_answers-clause-puts
returns-in_err-put_answers-clause-puts g c =
    let h = c.args.history.now.items in
    let middle : List ℕ = if has_history c.args.parts then history_text h else [] in
    puts_failed c.from_residual.result (answers_text c.args.processors (entries_in h))
    (middle ∷ summary_text c.args.summary.now ∷ []) c.from_residual.ensures.0
    c.in_err-put_answers.ensures

pub returns-in_err-put_history-clause-puts : goal.returns-in_err-put_history-clause-puts
returns-in_err-put_history-clause-puts g c =
    let h = c.args.history.now.items in
    let answers = answers_text c.args.processors (entries_in h) in
    let middle : List ℕ = if has_history c.args.parts then history_text h else [] in
    puts_failed c.from_residual-in_err-put_history.result (answers ++ middle)
    (summary_text c.args.summary.now ∷ []) c.from_residual-in_err-put_history.ensures.0
    (sent_part answers middle c.in_ok-put_answers.ensures c.in_err-put_history.ensures)

pub returns-clause-puts : goal.returns-clause-puts
returns-clause-puts g c =
    let h = c.args.history.now.items in
    let answers = answers_text c.args.processors (entries_in h) in
    let middle : List ℕ = if has_history c.args.parts then history_text h else [] in
    let first = outgoing (g.K.Sink.taken c.args.sink.now) (g.K.Sink.writes c.args.sink.now) (g.K.Sink.faults c.args.sink.now) c.args.room.now.bytes.items in
    let two = outgoing (g.K.Sink.taken c.put_history.new.sink) (g.K.Sink.writes c.put_history.new.sink)
    (g.K.Sink.faults c.put_history.new.sink) c.put_history.new.room.bytes.items in
    let last = outgoing (g.K.Sink.taken c.put_summary.new.sink) (g.K.Sink.writes c.put_summary.new.sink)
    (g.K.Sink.faults c.put_summary.new.sink) c.put_summary.new.room.bytes.items in
    puts_then c.put_summary.result first two last (answers ++ middle) (summary_text c.args.summary.now)
    (sent_sent answers middle c.in_ok-put_answers.ensures c.in_ok-put_history.ensures)
    c.put_summary.ensures.puts
