use Rattle.std.proofs.Common.{◌≡◌, Some, arith, ap, rules, sym, take, ◌∙◌}
use Rattle.std.specs.Str.Parse.{digits_value}
use Rattle.std.proofs.lemmas.Grind.{common_steps}
use Rattle.trace_lines.proofs.Numbers.{digits_more, number_of-zeros, number_of-other, number_of-large, number_of-digits}
use Rattle.trace_lines.proofs.word.decimal_of.Goals as goal

pub returns-then-not-is_plain : goal.returns-then-not-is_plain
returns-then-not-is_plain c = sym (number_of-zeros c.args.word.now (λ plain. grind (arith, common_steps)))

pub returns-in_err-digit_of : goal.returns-in_err-digit_of
returns-in_err-digit_of c = c.from_residual.ensures ∙ sym
    (number_of-other c.args.word.now c.loop-byte.byte-index c.loop-byte-test.true c.in_err-digit_of.ensures.none)

pub returns-in_err-number : goal.returns-in_err-number
returns-in_err-number c =
    let digit = c.in_ok-digit_of.ensures.some in
    let more = digits_more c.args.word.now c.loop-byte.byte-index c.loop-byte.number c.loop-byte-test.true
    (c.loop-byte.invariant.0, c.loop-byte.invariant.1) digit.0 digit.1 in
    c.from_residual-in_err-number.ensures ∙ sym (number_of-large c.args.word.now c.loop-byte.byte-index c.loop-byte-test.true more.1
    (let large = c.in_err-number.ensures.none in omega (arith, large, digit.2, c.loop-byte.invariant.0)))

pub loop-byte-preserved : goal.loop-byte-preserved
loop-byte-preserved c =
    let digit = c.in_ok-digit_of.ensures.some in
    let more = digits_more c.args.word.now c.loop-byte.byte-index c.loop-byte.number c.loop-byte-test.true
    (c.loop-byte.invariant.0, c.loop-byte.invariant.1) digit.0 digit.1 in
    (let n = c.in_ok-number.ensures.some in omega (arith, n, more.0, digit.2), more.1, search rules)

pub returns : goal.returns
returns c =
    let word = c.args.word.now in
    let all : take c.loop-byte.byte-index word ≡ word = grind (arith, common_steps) in
    let digits = c.loop-byte.invariant.1 in
    let value : c.loop-byte.number ≡ digits_value 10 word = c.loop-byte.invariant.0 ∙ ap (digits_value 10) all in
    ap Some value ∙ sym (number_of-digits word (grind (arith, common_steps)) (λ j below. digits j (omega (arith, below)))
    (omega (arith, value, c.loop-byte.invariant.2)))
