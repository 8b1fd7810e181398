use Rattle.std.proofs.Common.{sym, subst}
use Rattle.pager_model.specs.Extents.{IsExtent}
use Rattle.population_map.proofs.Placings.{aligned_at}
use Rattle.population_map.proofs.PopulationMap.insert.Goals as goal

pub insert-requires-clause-aligned : goal.insert-requires-clause-aligned
insert-requires-clause-aligned c =
    subst (IsExtent c.args.extent.size) (sym c.page_at.ensures)
    (aligned_at c.args.extent.size c.args.space c.args.extent.first c.requires.aligned)
