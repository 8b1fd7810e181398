use Rattle.std.proofs.Common.{◌%◌, ◌==◌, ap, sym, ◌∙◌}
use Rattle.std.specs.Int.{bit_at}
use Rattle.population_map.specs.Populations.{mark_of, is_populated}
use Rattle.population_map.proofs.Masks.{bit_of_test}
use Rattle.population_map.proofs.placing.is_populated.Goals as goal

pub returns : goal.returns
unfolding is_populated
returns g c =
    sym (ap (λ m. bit_at m.some (c.args.page % 8) == 1)
    (sym (c.mark_at-mark.ensures ∙ ap (λ k. mark_of c.args.tree.now k c.args.page) c.at_level.ensures))
    ∙ (ap (λ b. b == 1) c.has_bit.ensures ∙ bit_of_test c.has_bit.result))
