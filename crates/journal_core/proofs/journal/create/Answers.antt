use Rattle.std.proofs.Common.{arith}
use Rattle.journal_core.proofs.DealtSeats.{begins}
use Rattle.journal_core.proofs.journal.create.Goals as goal

pub of_words-requires : goal.of_words-requires
of_words-requires c = begins c.args.setting (omega arith)
