use Rattle.std.proofs.Common.{◌-◌, ◌*◌, ◌%◌, ◌^◌, ap, sym, cond, ◌∙◌, arith}
use Rattle.std.specs.Int.{w8}
use Rattle.std.proofs.lemmas.Nat.{or_of_8, and_le_l}
use Rattle.std.proofs.lemmas.Nat.Bits.{bit_at_set_same, bit_at_set_other, bit_at_clear_same, bit_at_clear_other}
use Rattle.population_map.proofs.mark.with_bit.Goals as goal

pub returns-then-is_set : goal.returns-then-is_set
returns-then-is_set c = record {
  small = or_of_8 c.args.mask (1 * 2 ^ c.args.part % 256) (omega arith) (omega arith);
  same = bit_at_set_same w8 c.args.mask c.args.part c.requires ∙ ap (λ b. cond b 1 0) (sym c.if-is_set.true);
  others = λ k inside other. bit_at_set_other w8 c.args.mask c.args.part c.requires k other;
}

pub returns-else-is_set : goal.returns-else-is_set
returns-else-is_set c = record {
  small = omega (arith, and_le_l c.args.mask (255 - 1 * 2 ^ c.args.part % 256));
  same = bit_at_clear_same w8 c.args.mask c.args.part c.requires ∙ ap (λ b. cond b 1 0) (sym c.if-is_set.false);
  others = λ k inside other. bit_at_clear_other w8 c.args.mask c.args.part c.requires k inside other;
}
