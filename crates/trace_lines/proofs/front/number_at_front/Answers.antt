use Rattle.std.proofs.Common.{◌++◌, ap, decimal, drop, refl, subst, sym, ◌∙◌, arith}
use Rattle.std.proofs.lemmas.List.{take-append-drop}
use Rattle.trace_lines.specs.Words.{IsPlain}
use Rattle.trace_lines.proofs.Numbers.{first_number}
use Rattle.trace_lines.proofs.front.number_at_front.Goals as goal

pub returns-then-is_plain : goal.returns-then-is_plain
returns-then-is_plain c =
    let text = c.args.text.now in
    let number = c.digits_at_front-number.result.0 in
    let count = c.digits_at_front-number.result.1 in
    let first = c.digits_at_front-number.ensures in
    let word = first_number text count number first.within first.digits (subst IsPlain c.split_at.ensures.front (c.if-is_plain.ensures.0 refl))
    first.value (omega arith) in
    sym (take-append-drop count text) ∙ ap (λ w. w ++ drop count text) word ∙ ap (λ r. decimal number ++ r) (sym c.split_at.ensures.back)
