use Rattle.std.proofs.Common.{sym}
use Rattle.history_text.proofs.ReadLines.{end_found, end_is_later, no_end, none_before}
use Rattle.history_text.proofs.text.cut.Goals as goal

pub loop-line-init : goal.loop-line-init
loop-line-init c = none_before c.args.bytes.now

pub returns-then-eq-clause-first : goal.returns-then-eq-clause-first
returns-then-eq-clause-first c =
    end_found c.args.bytes.now c.loop-line.rest.now c.in-Some.line.now c.in-Some.after.now c.loop-line.invariant
    c.in-Some.ensures.parts c.in-Some.ensures.first (sym c.if-eq.ensures)

pub loop-line-preserved : goal.loop-line-preserved
loop-line-preserved c =
    end_is_later c.args.bytes.now c.loop-line.rest.now c.in-Some.line.now c.in-Some.after.now c.loop-line.invariant
    c.in-Some.ensures.parts c.in-Some.ensures.first (sym c.if-eq.ensures)

pub returns-clause-first : goal.returns-clause-first
returns-clause-first c = no_end c.args.bytes.now c.loop-line.rest.now c.loop-line.invariant c.in_default.ensures.none
