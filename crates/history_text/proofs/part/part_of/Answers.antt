use Rattle.std.proofs.Common.{decimal, Some, refl, arith}
use Rattle.std.proofs.lemmas.Bool.Decides.{Decides-eqb}
use Rattle.std.proofs.lemmas.Slice.Eq.{strip_prefix_is, strip_suffix_is}
use Rattle.history_text.proofs.Parts.{both_parts, no_such_space}
use Rattle.history_text.proofs.part.part_of.Goals as goal

pub returns-in_ok-space-in-Some-clause-some : goal.returns-in_ok-space-in-Some-clause-some
returns-in_ok-space-in-Some-clause-some c =
    both_parts c.args.word.now c.in_ok-digits.digits.now c.in-Some.digits.now c.as_slice-2.result.now c.as_slice-3.result.now
    (decimal c.in_ok-space-in-Some.space)
    (strip_prefix_is Decides-eqb c.args.word.now c.as_slice-2.result.now (Some c.in_ok-digits.digits) c.in_ok-digits.ensures.cases)
    c.as_slice-2.ensures
    (strip_suffix_is Decides-eqb c.in_ok-digits.digits.now c.as_slice-3.result.now (Some c.in-Some.digits) c.in-Some.ensures.cases)
    c.as_slice-3.ensures c.in_ok-space-in-Some.ensures.some.0

pub returns-in_err-space-in-Some-clause-none : goal.returns-in_err-space-in-Some-clause-none
returns-in_err-space-in-Some-clause-none c =
    let is = both_parts c.args.word.now c.in_ok-digits.digits.now c.in-Some.digits.now c.as_slice-2.result.now c.as_slice-3.result.now c.in-Some.digits.now
    (strip_prefix_is Decides-eqb c.args.word.now c.as_slice-2.result.now (Some c.in_ok-digits.digits) c.in_ok-digits.ensures.cases)
    c.as_slice-2.ensures
    (strip_suffix_is Decides-eqb c.in_ok-digits.digits.now c.as_slice-3.result.now (Some c.in-Some.digits) c.in-Some.ensures.cases)
    c.as_slice-3.ensures refl in
    rw c.from_residual-in_err-space-in-Some.ensures
    (no_such_space c.args.word.now c.in-Some.digits.now c.args.spaces (omega arith) is c.in_err-space-in-Some.ensures.none)
