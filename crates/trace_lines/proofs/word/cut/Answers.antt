use Rattle.std.proofs.Common.{◌+◌, sym}
use Rattle.trace_lines.proofs.Splits.{at_first, at_none, rest_of}
use Rattle.trace_lines.proofs.word.cut.Goals as goal

pub returns-in_err-at-clause-none : goal.returns-in_err-at-clause-none
returns-in_err-at-clause-none c = rw c.from_residual.ensures (at_none c.args.end c.args.text.now (sym c.in_err-at.ensures))

pub returns-clause-parts : goal.returns-clause-parts
returns-clause-parts c = rw (rest_of (c.in_ok-at.at + 1) c.args.text.now)
    (at_first c.args.end c.args.text.now c.in_ok-at.at (sym c.in_ok-at.ensures)).0

pub returns-clause-first : goal.returns-clause-first
returns-clause-first c = rw (rest_of (c.in_ok-at.at + 1) c.args.text.now)
    (at_first c.args.end c.args.text.now c.in_ok-at.at (sym c.in_ok-at.ensures)).1
