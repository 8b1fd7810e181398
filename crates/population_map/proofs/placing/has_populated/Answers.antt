use Rattle.std.proofs.Common.{◌≡◌, ◌<◌, ◌/◌, ◌^◌, ◌∙◌, refl, sym, ap, subst, arith}
use Rattle.std.proofs.lemmas.Bool.{eqb-false, ne_eqb, not-true, not_from_false}
use Rattle.population_map.specs.Bits.{HasBit}
use Rattle.population_map.specs.Populations.{is_populated}
use Rattle.population_map.proofs.Marks.{bits_over, some_page, mark_alike}
use Rattle.population_map.proofs.Masks.{has_bit, no_bit}
use Rattle.population_map.proofs.placing.has_populated.Goals as goal

pub returns-then-level-eq0 : goal.returns-then-level-eq0
returns-then-level-eq0 g c =
    let m = c.args.tree.now in
    let one : c.args.size ≡ 0 = omega arith in (
      λ is. (c.args.page, refl, sym c.is_populated.ensures ∙ is),
      λ has.
          let same : has.0 ≡ c.args.page = omega (arith, subst (λ k. has.0 / 8 ^ k ≡ c.args.page / 8 ^ k) one has.1) in
          c.is_populated.ensures ∙ ap (is_populated m) (sym same) ∙ has.2,
    )

pub returns : goal.returns
returns g c =
    let m = c.args.tree.now in
    let size = c.args.size in
    let page = c.args.page in
    let mark = c.mark_at.result in
    let byte : mark.some < 256 = omega arith in (
      λ some. some_page m c.requires size page (omega arith) (subst (λ v. HasBit v.some) c.mark_at.ensures
          (has_bit mark.some byte (eqb-false _ _ (not-true _ some)))),
      λ has.
          let bit = bits_over m c.requires size has.0 (omega arith) (omega arith) has.2 in
          let here = subst (λ v. HasBit v.some) (mark_alike m size has.0 page (omega arith) has.1 ∙ sym c.mark_at.ensures) bit in
          not_from_false _ (ne_eqb _ _ (λ zero. no_bit mark.some zero here)),
    )
