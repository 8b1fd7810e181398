use Rattle.std.proofs.Common.{◌≢◌, arith}
use Rattle.pager_command.proofs.Words.{another_number}
use Rattle.pager_command.proofs.form.every_of.Goals as goal

-- no number of calls from one on has this word
pub returns-then-every-eq0-clause-none : goal.returns-then-every-eq0-clause-none
returns-then-every-eq0-clause-none c every some few =
    let zero = c.if-every-eq0.true in
    let found = c.in_ok-every.every in
    let differ : found ≢ every = omega arith in
    another_number c.args.word.now found every (omega arith) (omega (arith, few)) c.in_ok-every.ensures.some differ
