use Rattle.std.proofs.Common.{ℕ, ◌≤◌, [], List, length, flat_map, refl, subst, arith}
use Rattle.std.specs.List.{range_with_len}
use Rattle.std.proofs.lemmas.List.{take_all}
use Rattle.std.proofs.lemmas.List.FromFn.{length-range_with_len}
use Rattle.pager_model.specs.Legal.{entries_in}
use Rattle.pager_model.specs.PrintedText.{answers_of}
use Rattle.report_text.specs.Writing.{Sent, outgoing}
use Rattle.report_text.proofs.SentBytes.{text_at, sent_next, next_failed}
use Rattle.report_text.proofs.report.put_answers.Goals as goal

pub returns-in_err-put_answers_of : goal.returns-in_err-put_answers_of
returns-in_err-put_answers_of g c =
    let f = answers_of (entries_in c.args.history.now.items) in
    let n = c.args.processors in
    let i = c.loop-processor.processor in
    next_failed f (range_with_len 0 n) i _ [] (text_at f n i _ c.loop-processor-test.true refl)
    c.from_residual.result [] c.from_residual.ensures.0 c.loop-processor.invariant c.in_err-put_answers_of.ensures

pub loop-processor-preserved : goal.loop-processor-preserved
loop-processor-preserved g c =
    let f = answers_of (entries_in c.args.history.now.items) in
    let n = c.args.processors in
    let i = c.loop-processor.processor in
    sent_next f (range_with_len 0 n) i _ [] (text_at f n i _ c.loop-processor-test.true refl) c.loop-processor.invariant c.in_ok-put_answers_of.ensures

pub returns : goal.returns
returns g c =
    let n = c.args.processors in
    let i = c.loop-processor.processor in
    let all : length (range_with_len 0 n) ≤ i = omega (arith, length-range_with_len 0 n, c.loop-processor-test.false) in
    let first = outgoing (g.K.Sink.taken c.args.sink.now) (g.K.Sink.writes c.args.sink.now) (g.K.Sink.faults c.args.sink.now) c.args.room.now.bytes.items in
    let last = outgoing (g.K.Sink.taken c.loop-processor.sink) (g.K.Sink.writes c.loop-processor.sink) (g.K.Sink.faults c.loop-processor.sink) c.loop-processor.room.bytes.items in
    subst (λ (l : List ℕ). Sent first last (flat_map (answers_of (entries_in c.args.history.now.items)) l))
    (take_all i (range_with_len 0 n) all) c.loop-processor.invariant
