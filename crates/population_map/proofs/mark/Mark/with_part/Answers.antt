use Rattle.std.proofs.Common.{arith}
use Rattle.std.proofs.lemmas.Bool.{eqb-true, eqb-false, eq-eqb, ne_eqb, not-true, not_from_false}
use Rattle.population_map.proofs.Masks.{is_carried, has_bit, no_bit, all_bits, is_all_bits}
use Rattle.population_map.proofs.mark.Mark.with_part.Goals as goal

pub returns : goal.returns
returns c =
    is_carried c.args.self c.args.below c.with_bit.result c.with_bit-2.result c.args.part _ _
    (λ some. has_bit c.args.below.some (omega arith) (eqb-false _ _ (not-true _ some)))
    (λ has. not_from_false _ (ne_eqb _ _ (λ zero. no_bit c.args.below.some zero has)))
    (λ all. all_bits c.args.below.full (eqb-true _ _ all))
    (λ all. eq-eqb _ _ (is_all_bits c.args.below.full (omega arith) all))
    c.with_bit.ensures c.with_bit-2.ensures
