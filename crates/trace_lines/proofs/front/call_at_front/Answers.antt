use Rattle.std.proofs.Common.{◌∷◌, ◌++◌, ap, append_assoc, decimal, sym, ◌∙◌, arith}
use Rattle.pager_model.specs.TraceText.{call_words}
use Rattle.trace_lines.specs.Words.{spaced}
use Rattle.trace_lines.proofs.CutWords.{words_joined}
use Rattle.trace_lines.proofs.front.call_at_front.Goals as goal

pub returns-clause-range : goal.returns-clause-range
returns-clause-range c = λ version. (
  omega (arith, c.if-processor-from.false, c.from.ensures),
  c.in_ok-call.ensures.range.0,
  c.in_ok-call.ensures.range.1 version,
)

pub returns-clause-text : goal.returns-clause-text
returns-clause-text c =
    let by = decimal c.in_ok-processor.processor in
    let words = call_words c.in_ok-call.call in
    let rest = c.in_ok-call.rest.now in
    c.in_ok-processor.ensures
    ∙ ap (λ r. by ++ r) (c.in_ok-behind_space.ensures ∙ ap (λ r. 32 ∷ r) c.in_ok-name.ensures ∙ c.in_ok-call.ensures.text)
    ∙ sym (append_assoc by (spaced words) rest)
    ∙ ap (λ l. l ++ rest) (sym (words_joined by words))
