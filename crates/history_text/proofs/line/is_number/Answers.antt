use Rattle.std.proofs.Common.{arith}
use Rattle.history_text.proofs.Words.{number_test}
use Rattle.history_text.proofs.line.is_number.Goals as goal

pub returns-in-Some : goal.returns-in-Some
returns-in-Some c = number_test c.args.word.now c.in-Some.found c.args.number (omega arith) (omega arith) c.in-Some.ensures.some
