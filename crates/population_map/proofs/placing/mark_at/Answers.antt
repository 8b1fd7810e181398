use Rattle.std.proofs.Common.{unwrap_or, ap, ◌∙◌}
use Rattle.population_map.specs.Populations.{mark_of, unmarked}
use Rattle.population_map.proofs.placing.mark_at.Goals as goal

pub returns : goal.returns
unfolding mark_of
returns g c = c.mark_at.ensures ∙ ap (λ v. unwrap_or v unmarked) c.at-spot.ensures.value
