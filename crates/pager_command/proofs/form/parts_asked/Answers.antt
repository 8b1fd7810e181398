use Rattle.std.proofs.Common.{codes, []}
use Rattle.pager_command.proofs.Words.{one_word}
use Rattle.pager_command.proofs.form.parts_asked.Goals as goal

pub returns-in-len1-clause-some : goal.returns-in-len1-clause-some
returns-in-len1-clause-some c =
    (one_word c.args.words.now (record { ref_ptr = (0, 0); now = [] }) (codes "--history") c.eq.result c.in-len1.len_at_least
    c.in-len1.len_below c.eq.ensures).0 c.if-eq.true
