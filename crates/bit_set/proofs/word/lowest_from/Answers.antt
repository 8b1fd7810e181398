use Rattle.std.proofs.Common.{arith}
use Rattle.bit_set.proofs.Words.{none_from, lowest_is_set, lowest_is_first}
use Rattle.bit_set.proofs.word.lowest_from.Goals as goal

pub returns-then-rest-eq0-clause-none : goal.returns-then-rest-eq0-clause-none
returns-then-rest-eq0-clause-none c = none_from c.args.word c.args.bit c.if-rest-eq0.true

pub returns-else-rest-eq0-clause-set : goal.returns-else-rest-eq0-clause-set
returns-else-rest-eq0-clause-set c =
    let found = lowest_is_set c.args.word c.args.bit (omega arith) c.if-rest-eq0.false in (omega arith, found.0, found.1)

pub returns-else-rest-eq0-clause-lowest : goal.returns-else-rest-eq0-clause-lowest
returns-else-rest-eq0-clause-lowest c = lowest_is_first c.args.word c.args.bit (omega arith) c.if-rest-eq0.false
