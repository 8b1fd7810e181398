use Rattle.std.proofs.Common.{◌++◌, ap, sym, ◌∙◌, decimal, map}
use Rattle.std.proofs.lemmas.List.{take_all}
use Rattle.report_text.specs.Lines.{spaced}
use Rattle.report_text.proofs.Lines.{line-gained}
use Rattle.report_text.proofs.summary_lines.put_counts.Goals as goal

pub returns-clause-text : goal.returns-clause-text
returns-clause-text c =
    let name = c.args.name.now in
    let counts = c.args.counts.now in
    let named = c.args.text.now.items ++ name in
    let words = c.loop-count.invariant.text
    ∙ ap (λ l. named ++ spaced (map decimal l)) (take_all c.loop-count.count-index counts c.loop-count-test.false)
    ∙ ap (λ l. l ++ spaced (map decimal counts)) (sym c.put_name.ensures) in
    line-gained _ _ _ _ name (map decimal counts) c.put_name.ensures words c.end.ensures
