use Rattle.std.proofs.Common.{◌∙◌, sym, subst}
use Rattle.std.proofs.lemmas.Result.{err_from_is_err_and}
use Rattle.pager_model.specs.TraceText.{IsTextOf}
use Rattle.trace_lines.specs.Forms.{call_forms}
use Rattle.trace_reader.proofs.Refusals.{too_long, no_first_line, faulty_first_line, behind_first_line, is_text}
use Rattle.trace_reader.proofs.text.parse.Goals as goal

pub returns-then-text-gt-MAX_BYTES-clause-refused : goal.returns-then-text-gt-MAX_BYTES-clause-refused
returns-then-text-gt-MAX_BYTES-clause-refused c = too_long c.args.text.now c.if-text-gt-MAX_BYTES.true

pub returns-in_default-clause-refused : goal.returns-in_default-clause-refused
returns-in_default-clause-refused c = no_first_line c.args.text.now c.if-text-gt-MAX_BYTES.false c.in_default.ensures.none

pub returns-in-Err-clause-refused : goal.returns-in-Err-clause-refused
returns-in-Err-clause-refused c =
    faulty_first_line c.args.text.now c.in-Some.line.now c.in-Some.rest.now c.in-Err.cause c.if-text-gt-MAX_BYTES.false c.in-Some.ensures.first c.in-Err.ensures.err

pub returns-in-Err-second_line-clause-refused : goal.returns-in-Err-second_line-clause-refused
returns-in-Err-second_line-clause-refused c =
    let head = c.in-Ok.head in
    behind_first_line c.args.text.now c.in-Some.line.now c.in-Some.rest.now head c.if-text-gt-MAX_BYTES.false c.in-Some.ensures.first c.in-Ok.ensures.text c.in-Ok.ensures.range ∙ c.in-Err-second_line.ensures.refused (call_forms head.version head.processors head.spaces)

pub returns-in_err-calls-clause-refused : goal.returns-in_err-calls-clause-refused
returns-in_err-calls-clause-refused c =
    let head = c.in-Ok.head in
    let p = err_from_is_err_and c.from_residual.result c.from_residual.ensures.1 in
    let behind = behind_first_line c.args.text.now c.in-Some.line.now c.in-Some.rest.now head c.if-text-gt-MAX_BYTES.false c.in-Some.ensures.first c.in-Ok.ensures.text c.in-Ok.ensures.range in
    rw (
      p.1,
      p.2,
      behind,
      c.in-Ok-second_line.ensures.rest (call_forms head.version head.processors head.spaces),
      ← c.first_call.ensures,
    ) c.in_err-calls.ensures.refused

pub returns-clause-ok : goal.returns-clause-ok
returns-clause-ok c =
    let parts = c.in-Ok-second_line.parts in
    subst (IsTextOf c.args.text.now) (sym c.of.ensures)
    (is_text c.args.text.now c.in-Some.line.now c.in-Some.rest.now parts.1.now c.in-Ok.head parts.0 c.in_ok-calls.calls.items c.in-Some.ensures.parts c.in-Ok.ensures.text c.in-Ok.ensures.range c.in-Ok-second_line.ensures.text c.in-Ok-second_line.ensures.range c.in_ok-calls.ensures.lines c.in_ok-calls.ensures.few c.in_ok-calls.ensures.text)
