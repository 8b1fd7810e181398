use Rattle.std.proofs.Common.{ap, sym, false, get_or, ◌%◌, ◌∙◌}
use Rattle.std.specs.Int.{bit_at}
use Rattle.bit_set.proofs.Sets.{in_by_bit}
use Rattle.bit_set.proofs.level.Level.has.Goals as goal

pub returns-clause-has : goal.returns-clause-has
returns-clause-has g c =
    let bit = c.args.bit in
    sym (ap (λ set. get_or set bit false) (sym c.self.view_is) ∙ in_by_bit c.self.inside.store.words.items bit c.has_bit.result
    (ap (λ word. bit_at word (bit % 64)) (sym c.get.ensures.word) ∙ c.has_bit.ensures))
