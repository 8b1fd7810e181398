use Rattle.std.proofs.Common.{unwrap_or, ap, ◌∙◌}
use Rattle.extent_tree.specs.Rows.{row}
use Rattle.population_map.specs.Populations.{mark_of, unmarked}
use Rattle.population_map.proofs.way.read.Goals as goal

pub returns-clause-small : goal.returns-clause-small
unfolding mark_of
returns-clause-small g c = c.mark_at.ensures ∙ ap (λ v. unwrap_or v unmarked)
    (c.part-small.ensures.value ∙ ap (λ k. row c.args.tree.now k c.args.page) c.at_level-3.ensures)

pub returns-clause-middle : goal.returns-clause-middle
unfolding mark_of
returns-clause-middle g c = c.mark_at-2.ensures ∙ ap (λ v. unwrap_or v unmarked)
    (c.part-middle.ensures.value ∙ ap (λ k. row c.args.tree.now k c.args.page) c.at_level-2.ensures)

pub returns-clause-large : goal.returns-clause-large
unfolding mark_of
returns-clause-large g c = c.mark_at-3.ensures ∙ ap (λ v. unwrap_or v unmarked)
    (c.at-large.ensures.value ∙ ap (λ k. row c.args.tree.now k c.args.page) c.at_level.ensures)
