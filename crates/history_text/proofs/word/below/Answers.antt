use Rattle.std.proofs.Common.{arith}
use Rattle.history_text.proofs.Words.{one_number}
use Rattle.history_text.proofs.word.below.Goals as goal

pub returns-then-number-end-clause-none : goal.returns-then-number-end-clause-none
returns-then-number-end-clause-none c = λ n low same.
    let equal = one_number c.args.word.now c.in_ok-number.number n (omega arith) (omega arith) c.in_ok-number.ensures.some same in
    omega (arith, equal)
