use Rattle.std.proofs.Common.{[], ◌∷◌, ◌++◌, decimal, ap, ◌∙◌}
use Rattle.pager_model.specs.PrintedText.{part_word, what_words}
use Rattle.report_text.specs.Lines.{spaced}
use Rattle.report_text.proofs.Lines.{line-gained, adds-more}
use Rattle.report_text.proofs.entry_words.put_entry.Goals as goal

pub returns : goal.returns
returns c =
    let n = c.args.numbered.now in
    let number = decimal n.number in
    let by = decimal n.entry.processor ∷ [] in
    let part = part_word n.entry.space n.entry.frames ∷ [] in
    let what = what_words n.entry.what in
    let second = c.add_number.ensures.text ∙ ap (λ m. c.put_number.new.self.items ++ spaced (decimal m ∷ [])) c.from.ensures in
    line-gained _ _ _ _ number (by ++ (part ++ what)) c.put_number.ensures.text
    (adds-more _ _ _ by (part ++ what) second (adds-more _ _ _ part what c.add_parts.ensures.text c.add_what.ensures.text))
    c.end.ensures
