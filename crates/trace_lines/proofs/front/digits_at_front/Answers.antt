use Rattle.std.proofs.Common.{arith}
use Rattle.trace_lines.proofs.Numbers.{digits_more, short_number}
use Rattle.trace_lines.proofs.front.digits_at_front.Goals as goal

pub overflow_mul-number : goal.overflow_mul-number
overflow_mul-number c =
    let small = short_number c.args.text.now c.loop-at.at (omega arith) (omega arith) c.loop-at.invariant.1 in
    omega (arith, small, c.loop-at.invariant.0)

pub overflow_add-number : goal.overflow_add-number
overflow_add-number c =
    let small = short_number c.args.text.now c.loop-at.at (omega arith) (omega arith) c.loop-at.invariant.1 in
    let digit = c.in-Some.ensures.some in
    omega (arith, small, c.loop-at.invariant.0, digit.1, digit.2)

pub loop-at-preserved : goal.loop-at-preserved
loop-at-preserved c =
    let digit = c.in-Some.ensures.some in
    let more = digits_more c.args.text.now c.loop-at.at c.loop-at.number (omega arith) c.loop-at.invariant digit.0 digit.1 in
    (omega (arith, more.0, digit.2), more.1)
