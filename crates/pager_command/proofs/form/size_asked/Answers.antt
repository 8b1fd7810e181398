use Rattle.std.proofs.Common.{[]}
use Rattle.pager_command.proofs.Words.{just_one_word, no_size_alone, size_alone}
use Rattle.pager_command.proofs.form.size_asked.Goals as goal

pub returns-in-len1-clause-some : goal.returns-in-len1-clause-some
returns-in-len1-clause-some c =
    size_alone c.size_of.result c.args.words.now _ (just_one_word c.args.words.now
    (record { ref_ptr = (0, 0); now = [] }) c.in-len1.len_at_least c.in-len1.len_below) c.size_of.ensures.some

pub returns-in-len1-clause-none : goal.returns-in-len1-clause-none
returns-in-len1-clause-none c =
    no_size_alone c.size_of.result c.args.words.now _ (just_one_word c.args.words.now
    (record { ref_ptr = (0, 0); now = [] }) c.in-len1.len_at_least c.in-len1.len_below) c.size_of.ensures.none
