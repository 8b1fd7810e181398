use Rattle.std.proofs.Common.{◌++◌, ap, sym, ◌∙◌}
use Rattle.std.proofs.lemmas.Fmt.{decimal_digit}
use Rattle.report_text.proofs.text.Text.put_digit.Goals as goal

pub returns-clause-text : goal.returns-clause-text
returns-clause-text c =
    c.put_byte.ensures ∙ ap (λ l. c.args.self.now.items ++ l) (sym (decimal_digit c.args.digit c.requires.digit))
