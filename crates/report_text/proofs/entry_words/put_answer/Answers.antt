use Rattle.std.proofs.Common.{[], ◌∷◌, ◌++◌, decimal, ap, ◌∙◌}
use Rattle.pager_model.specs.PrintedText.{answered_words}
use Rattle.report_text.specs.Lines.{spaced}
use Rattle.report_text.proofs.Lines.{line-gained, adds-more}
use Rattle.report_text.proofs.entry_words.put_answer.Goals as goal

pub returns : goal.returns
returns c =
    let had = c.args.text.now.items in
    let by = decimal c.args.processor in
    let number = decimal c.args.number ∷ [] in
    let answer = answered_words c.args.answered.now in
    let first = c.put_number.ensures.text ∙ ap (λ n. had ++ decimal n) c.from.ensures in
    let second = c.add_number.ensures.text ∙ ap (λ n. c.put_number.new.self.items ++ spaced (decimal n ∷ [])) c.from-2.ensures in
    line-gained _ _ _ _ by (number ++ answer) first (adds-more _ _ _ number answer second c.add_answered.ensures.text) c.end.ensures
