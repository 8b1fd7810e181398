use Rattle.followed_space.proofs.AnsweredLines.{AnswersLine-run, processor-legal}
use Rattle.followed_space.proofs.laws.a_history_of_a_trace_answers_its_lines.Goals as goal

pub returns-clause-lines : goal.returns-clause-lines
returns-clause-lines c = λ script g before after e text marks legal shows. AnswersLine-run script g before after e text marks legal shows

pub returns-clause-processors : goal.returns-clause-processors
returns-clause-processors c =
    λ script g before after e number call answered text marks legal shows is. processor-legal script g before after e text.daemon_in marks legal number call answered is
