use Rattle.std.proofs.Common.{[], ◌∷◌, refl}
use Rattle.trace_lines.specs.Forms.{Number, page}
use Rattle.trace_lines.proofs.Calls.{word_at, two, line_told}
use Rattle.trace_lines.proofs.line.one_page.Goals as goal

pub returns-in_err-processor-clause-err : goal.returns-in_err-processor-clause-err
returns-in_err-processor-clause-err c =
    let words = c.args.arguments.now in
    rw (two words c.in-len2.len_at_least c.in-len2.len_below)
    (line_told (Number 1 0 c.args.head.now.processors ∷ Number 1 0 c.args.head.now.spaces ∷ page ∷ [])
    (c.args.processor.now ∷ word_at words 0 ∷ word_at words 1 ∷ [])
    c.from_residual.result c.in_err-processor.field-0.0 c.from_residual.ensures.1 refl
    (c.in_err-processor.ensures.err (page ∷ []) (word_at words 1 ∷ [])))

pub returns-in_err-page-clause-err : goal.returns-in_err-page-clause-err
returns-in_err-page-clause-err c =
    let words = c.args.arguments.now in
    rw (two words c.in-len2.len_at_least c.in-len2.len_below)
    (line_told (Number 1 0 c.args.head.now.processors ∷ Number 1 0 c.args.head.now.spaces ∷ page ∷ [])
    (c.args.processor.now ∷ word_at words 0 ∷ word_at words 1 ∷ [])
    c.from_residual-in_err-page.result c.in_err-page.field-0.0 c.from_residual-in_err-page.ensures.1 refl
    (rw (c.in_ok-processor.ensures.exact.0, c.in_ok-processor.ensures.exact.1, ← c.in_err-page.ensures.exact) refl))

pub returns-clause-text : goal.returns-clause-text
returns-clause-text c =
    rw (
      two c.args.arguments.now c.in-len2.len_at_least c.in-len2.len_below,
      c.in_ok-processor.ensures.text.0,
      c.in_ok-processor.ensures.text.1,
      c.in_ok-page.ensures.found.0,
    ) refl
