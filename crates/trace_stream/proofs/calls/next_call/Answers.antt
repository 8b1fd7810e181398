use Rattle.std.proofs.Common.{◌≡◌, ◌+◌, ◌∙◌, List, Some, sym, subst, ap, refl, arith, drop}
use Rattle.std.proofs.lemmas.Result.{err_from_is_err_and}
use Rattle.trace_lines.specs.Forms.{Place, line_fault}
use Rattle.trace_lines.specs.Words.{words_of}
use Rattle.trace_reader.specs.Refusals.{first_call}
use Rattle.trace_stream.specs.Streams.{forms_of}
use Rattle.trace_stream.proofs.NextCalls.{behind_end, cuts, forms_same, goes_on, lawful, no_call, no_line, too_many}
use Rattle.trace_stream.proofs.NextLines.{is_long}
use Rattle.trace_stream.proofs.calls.next_call.Goals as goal

pub returns-in_err-length-clause-refused : goal.returns-in_err-length-clause-refused
returns-in_err-length-clause-refused g c =
    let p = err_from_is_err_and c.from_residual.result c.from_residual.ensures.1 in
    let first = c.first_call.ensures ∙ ap first_call c.daemon.ensures.daemon in
    rw (p.1, p.2) (no_line (forms_of c.args.opening.now.trace) _ _ c.args.calls _ _ (omega (arith, first, c.from.ensures)) c.in_err-length.ensures.refused)

pub returns-in_err-nothing_behind-clause-refused : goal.returns-in_err-nothing_behind-clause-refused
returns-in_err-nothing_behind-clause-refused g c =
    let p = err_from_is_err_and c.from_residual-in_err-nothing_behind.result c.from_residual-in_err-nothing_behind.ensures.1 in
    let first = c.first_call.ensures ∙ ap first_call c.daemon.ensures.daemon in
    let at = c.in_ok-length.ensures in
    let line = c.front-line.result.now in
    let long = is_long c.whole_line.new.ahead line c.in_ok-length.length at.line c.front-line.ensures in
    rw (p.1, p.2) (behind_end (forms_of c.args.opening.now.trace) _ _ c.args.calls _ _ line _ (omega (arith, first, c.from.ensures))
    (omega (arith, long, at.short)) (sym c.if-eq.ensures)
    (cuts (g.T.Source.left c.args.source.now) (g.T.Source.left c.whole_line.new.source) c.args.ahead.now c.whole_line.new.ahead line c.pass.new.self
    c.in_ok-length.length at.same at.line c.front-line.ensures c.pass.ensures) c.in_err-nothing_behind.ensures.refused)

pub returns-in-Err-clause-refused : goal.returns-in-Err-clause-refused
returns-in-Err-clause-refused g c =
    let first = c.first_call.ensures ∙ ap first_call c.daemon.ensures.daemon in
    let at = c.in_ok-length.ensures in
    let line = c.front-line.result.now in
    let opening = c.args.opening.now in
    let long = is_long c.whole_line.new.ahead line c.in_ok-length.length at.line c.front-line.ensures in
    no_call (forms_of opening.trace) _ _ c.args.calls _ _ line c.in-Err.cause (omega (arith, first, c.from.ensures)) (omega (arith, long, at.short))
    (sym c.if-eq.ensures)
    (subst (λ (forms : List (List Place)). line_fault forms (words_of line) ≡ Some c.in-Err.cause)
    (forms_same opening.head opening.trace c.requires.opening) c.in-Err.ensures.err)
    (cuts (g.T.Source.left c.args.source.now) (g.T.Source.left c.whole_line.new.source) c.args.ahead.now c.whole_line.new.ahead line
    (drop (c.in_ok-length.length + 1) c.whole_line.new.ahead) c.in_ok-length.length at.same at.line c.front-line.ensures refl)

pub returns-then-calls-eq-MOST_STREAM_CALLS-clause-refused : goal.returns-then-calls-eq-MOST_STREAM_CALLS-clause-refused
returns-then-calls-eq-MOST_STREAM_CALLS-clause-refused g c =
    let at = c.in_ok-length.ensures in
    let line = c.front-line.result.now in
    let opening = c.args.opening.now in
    let long = is_long c.whole_line.new.ahead line c.in_ok-length.length at.line c.front-line.ensures in
    too_many (forms_of opening.trace) _ c.args.calls _ _ line (omega (arith, long, at.short)) (sym c.if-eq.ensures)
    (lawful opening.head opening.trace line c.in-Ok.call c.requires.range c.requires.opening c.in-Ok.ensures.range c.in-Ok.ensures.text)
    (omega arith)
    (cuts (g.T.Source.left c.args.source.now) (g.T.Source.left c.whole_line.new.source) c.args.ahead.now c.whole_line.new.ahead line
    (drop (c.in_ok-length.length + 1) c.whole_line.new.ahead) c.in_ok-length.length at.same at.line c.front-line.ensures refl)

pub returns-clause-reads : goal.returns-clause-reads
returns-clause-reads g c =
    let at = c.in_ok-length.ensures in
    let line = c.front-line.result.now in
    goes_on _ _ line c.in-Ok.call c.in-Ok.ensures.text
    (cuts (g.T.Source.left c.args.source.now) (g.T.Source.left c.whole_line.new.source) c.args.ahead.now c.whole_line.new.ahead line c.pass-2.new.self
    c.in_ok-length.length at.same at.line c.front-line.ensures c.pass-2.ensures)
