use Rattle.std.proofs.Common.{codes, [], refl}
use Rattle.pager_command.proofs.Words.{one_word, report_behind, two_words}
use Rattle.pager_command.proofs.form.stream_of.Goals as goal

pub returns-in-len1-clause-some : goal.returns-in-len1-clause-some
returns-in-len1-clause-some c =
    (one_word c.args.words.now (record { ref_ptr = (0, 0); now = [] }) (codes "stream") c.eq.result c.in-len1.len_at_least
    c.in-len1.len_below c.eq.ensures).0 c.if-eq.true

pub returns-in-len2-clause-some : goal.returns-in-len2-clause-some
returns-in-len2-clause-some c =
    report_behind c.stream_report_of.result c.args.words.now _
    (two_words c.args.words.now (record { ref_ptr = (0, 0); now = [] }) (codes "stream") _ c.eq-then-words-lt3.result c.in-len2.len_at_least
    c.in-len2.len_below c.eq-then-words-lt3.ensures c.if-eq-2.true refl) c.stream_report_of.ensures.some
