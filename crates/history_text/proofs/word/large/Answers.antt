use Rattle.std.proofs.Common.{◌^◌, sym, ap, ◌∙◌, arith}
use Rattle.trace_lines.specs.Forms.{number_in}
use Rattle.trace_lines.proofs.Numbers.{number_in_again}
use Rattle.history_text.proofs.word.large.Goals as goal

pub returns-in-Err-clause-none : goal.returns-in-Err-clause-none
returns-in-Err-clause-none c = λ n small same.
    let ok = number_in_again 1 0 (2 ^ 64) n (omega arith) (omega arith) small small in
    let both = sym c.in-Err.is ∙ c.any_number.ensures.exact ∙ ap (number_in 1 0 (2 ^ 64)) same ∙ ok in
    cc
