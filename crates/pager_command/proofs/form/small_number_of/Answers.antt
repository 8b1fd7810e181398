use Rattle.std.proofs.Common.{◌≡◌, ◌<◌, ◌^◌, sym, ◌∙◌, arith}
use Rattle.std.proofs.lemmas.Fmt.{decimal_injective}
use Rattle.pager_command.proofs.form.small_number_of.Goals as goal

pub returns-in_default-clause-none : goal.returns-in_default-clause-none
returns-in_default-clause-none c number below same =
    let found = c.in_ok-number_of.field-0 in
    let fits : found < 2 ^ 64 = omega arith in
    let is : found ≡ number = decimal_injective found number fits (omega (arith, below)) (sym c.in_ok-number_of.ensures.some ∙ same) in
    c.in_default.ensures (omega (arith, is, below))
