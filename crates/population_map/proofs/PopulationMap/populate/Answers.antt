use Rattle.std.proofs.Common.{ap, ◌∙◌}
use Rattle.population_map.specs.Populations.{placed_pages}
use Rattle.population_map.proofs.Placings.{population_kept, same_count}
use Rattle.population_map.proofs.PopulationMap.populate.Goals as goal

pub invariant_of-self : goal.invariant_of-self
invariant_of-self g c =
    population_kept c.self.inside.spaces c.self.inside.tree c.change.new.tree c.self.invariant c.change.ensures.marks c.change.ensures.room
    c.change.ensures.populated.ids

pub returns-clause-count : goal.returns-clause-count
returns-clause-count g c =
    same_count c.self.inside.tree c.change.new.tree c.change.ensures.room.roots c.change.ensures.populated.ids
    ∙ ap placed_pages c.self.view_is
