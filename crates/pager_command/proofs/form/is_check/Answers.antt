use Rattle.std.proofs.Common.{codes, []}
use Rattle.pager_command.proofs.Words.{one_word}
use Rattle.pager_command.proofs.form.is_check.Goals as goal

pub returns-in-len1 : goal.returns-in-len1
returns-in-len1 c = one_word c.args.words.now (record { ref_ptr = (0, 0); now = [] }) (codes "check") c.eq.result c.in-len1.len_at_least
    c.in-len1.len_below c.eq.ensures
