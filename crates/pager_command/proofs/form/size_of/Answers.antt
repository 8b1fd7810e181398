use Rattle.std.proofs.Common.{◌≢◌, arith}
use Rattle.pager_command.proofs.Words.{another_number}
use Rattle.pager_command.proofs.form.size_of.Goals as goal

-- no size of more than a page has this word
pub returns-then-level-eq0-clause-none : goal.returns-then-level-eq0-clause-none
returns-then-level-eq0-clause-none c size some few =
    let outside = c.then-level-eq0.either in
    let found = c.in_ok-level.level in
    let differ : found ≢ size = omega arith in
    another_number c.args.word.now found size (omega arith) (omega (arith, few)) c.in_ok-level.ensures.some differ
