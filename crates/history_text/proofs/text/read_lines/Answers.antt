use Rattle.std.proofs.Common.{◌≡◌, ◌+◌, length, sym, subst, arith}
use Rattle.std.proofs.lemmas.Result.{IfErr-weaker, err_from_is_err_and, on_ok_weaker}
use Rattle.trace_reader.specs.Refusals.{lines_of}
use Rattle.history_text.specs.Refusals.{RefusedAtEnd}
use Rattle.history_text.proofs.ReadLines.{no_line, nothing_read, read_on, refused_behind, refused_there, whole_text}
use Rattle.history_text.proofs.text.read_lines.Goals as goal

pub lines-init : goal.lines-init
lines-init c = nothing_read c.args.trace.now c.args.bytes.now c.args.history.now.items c.requires

pub lines-preserved : goal.lines-preserved
lines-preserved c =
    read_on c.args.trace.now c.args.bytes.now c.lines.history.items c.keep_line.new.history.items c.lines.rest.now c.in-Some.line.now c.in-Some.after.now
    c.lines.invariant c.in-Some.ensures.parts c.in-Some.ensures.first (sym c.if-eq.ensures) c.in_ok-keep_line.ensures.kept

pub returns-in_err-keep_line-clause-refused : goal.returns-in_err-keep_line-clause-refused
returns-in_err-keep_line-clause-refused c =
    let p = err_from_is_err_and c.from_residual.result c.from_residual.ensures.1 in
    rw (p.1, p.2) (refused_there c.args.trace.now c.args.bytes.now c.lines.history.items c.lines.rest.now c.in-Some.line.now c.in-Some.after.now
    c.in_err-keep_line.field-0.0 c.lines.invariant c.in-Some.ensures.first (sym c.if-eq.ensures) c.in_err-keep_line.ensures.refused)

pub returns-then-eq-clause-refused : goal.returns-then-eq-clause-refused
returns-then-eq-clause-refused c =
    let many : c.len.result + 1 ≡ length c.lines.history.items + 1 = omega arith in
    IfErr-weaker c.nothing_behind.result _ _
    (λ fault refused. refused_behind c.args.trace.now c.args.bytes.now c.lines.history.items c.lines.rest.now c.in-Some.line.now c.in-Some.after.now
    fault c.lines.invariant c.in-Some.ensures.first (sym c.if-eq.ensures)
    (subst (λ n. RefusedAtEnd n (lines_of c.in-Some.after.now) fault) many refused))
    c.nothing_behind.ensures.refused

pub returns-then-eq-clause-ok : goal.returns-then-eq-clause-ok
returns-then-eq-clause-ok c =
    on_ok_weaker c.nothing_behind.result
    (λ none. whole_text c.args.trace.now c.args.bytes.now c.lines.history.items c.lines.rest.now c.in-Some.line.now c.in-Some.after.now
    c.lines.invariant c.in-Some.ensures.parts (sym c.if-eq.ensures) none)
    c.nothing_behind.ensures.ok

pub returns-in_default-clause-refused : goal.returns-in_default-clause-refused
returns-in_default-clause-refused c =
    c.lines.invariant.refusal _ (no_line c.args.trace.now (length c.lines.history.items) c.lines.rest.now c.in_default.ensures.none)
