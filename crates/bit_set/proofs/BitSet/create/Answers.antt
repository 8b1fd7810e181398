use Rattle.std.proofs.Common.{◌*◌, ◌/◌, false, arith}
use Rattle.std.proofs.lemmas.List.{length-replicate}
use Rattle.bit_set.proofs.Levels.{Sums-none}
use Rattle.bit_set.proofs.BitSet.create.Goals as goal

pub invariant_of-result : goal.invariant_of-result
invariant_of-result c =
    let groups = c.div_ceil-groups.result in
    let bits = length-replicate (64 * (c.args.bound / 64)) false in
    let words = length-replicate (64 * groups) false in
    rw (c.in_ok-create.ensures, c.in_ok-create-2.ensures, c.in_ok-create-3.ensures) (record {
      bits_in_words = Sums-none (64 * (c.args.bound / 64)) (64 * groups);
      words_in_groups = Sums-none (64 * groups) 64;
      a_word_each = omega (arith, bits, words, c.div_ceil-groups.ensures);
      a_group_each = omega (arith, words);
      one_word = omega arith;
    })
