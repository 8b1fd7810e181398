use Rattle.std.proofs.Common.{◌≡◌, true, false, not, Ok, decimal, ap, sym, ◌∙◌}
use Rattle.std.proofs.lemmas.Fmt.{parse-decimal}
use Rattle.std.specs.Cmp.Lexicographic.{bytes_decides}
use Rattle.pager_command.proofs.form.number_of.Goals as goal

pub returns-in_default-clause-none : goal.returns-in_default-clause-none
returns-in_default-clause-none c number below same = c.in_default.not-Ok number
    (parse-decimal 64 number c.args.word.now c.parse.result below below same c.parse.ensures.value.0)

pub returns-then-ne-clause-none : goal.returns-then-ne-clause-none
returns-then-ne-clause-none c number below same =
    let parsed : c.parse.result ≡ Ok number =
    parse-decimal 64 number c.args.word.now c.parse.result below below same c.parse.ensures.value.0 in
    let is : number ≡ c.in-Ok.number = (let e : Ok number ≡ Ok c.in-Ok.number = sym parsed ∙ c.in-Ok.is in cc) in
    let equal = (bytes_decides c.format.result.now c.args.word.now).1 (c.format.ensures.text ∙ ap decimal (sym is) ∙ sym same) in
    let e : true ≡ false = sym c.if-ne.true ∙ c.ne.ensures ∙ ap not equal in
    cc
