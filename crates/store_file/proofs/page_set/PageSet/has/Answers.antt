use Rattle.std.proofs.Common.{ap, sym, false, get_or, ◌%◌, ◌∙◌}
use Rattle.std.specs.Int.{bit_at}
use Rattle.bit_set.proofs.Sets.{in_by_bit}
use Rattle.store_file.proofs.page_set.PageSet.has.Goals as goal

pub returns : goal.returns
returns c =
    let page = c.args.page in
    sym (ap (λ set. get_or set page false) (sym c.self.view_is) ∙ in_by_bit c.self.inside.words.items page c.has_bit.result
    (ap (λ word. bit_at word (page % 64)) (sym (rw c.deref.ensures.value at c.word_of.ensures)) ∙ c.has_bit.ensures))
