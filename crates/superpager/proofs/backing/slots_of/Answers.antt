use Rattle.std.proofs.Common.{◌≡◌, ◌<◌, ◌^◌, sym, ◌∙◌, arith}
use Rattle.std.proofs.lemmas.Fmt.{decimal_injective}
use Rattle.superpager.proofs.backing.slots_of.Goals as goal

-- no number of slots within the range has this word
pub returns-then-slots-eq0-clause-none : goal.returns-then-slots-eq0-clause-none
returns-then-slots-eq0-clause-none c number some few same =
    let outside = c.then-slots-eq0.either in
    let found = c.in_ok-slots.slots in
    let fits : found < 2 ^ 64 = omega arith in
    let is : found ≡ number = decimal_injective found number fits (omega (arith, few)) (sym c.in_ok-slots.ensures.some ∙ same) in
    omega (arith, is, some, few)
