use Rattle.std.proofs.Common.{false, get_or, ap, ◌∙◌, arith}
use Rattle.std.proofs.lemmas.Grind.{common_steps}
use Rattle.std.proofs.lemmas.List.{with_items_is}
use Rattle.bit_set.specs.Bits.{bits_of}
use Rattle.store_file.proofs.PageBits.{removed}
use Rattle.store_file.proofs.page_set.PageSet.remove_range.Goals as goal

pub returns : goal.returns
returns c p =
    ap (λ words. get_or (bits_of words) p false) (with_items_is c.self.inside.words c.clear_bits.new.words (omega arith))
    ∙ removed c.self.inside.words.items c.clear_bits.new.words c.args.self.now c.args.first c.args.length c.min-end.result c.self.view_is c.self.invariant (grind (arith, common_steps)) (rw c.deref_mut.ensures.value at c.clear_bits.ensures) p
