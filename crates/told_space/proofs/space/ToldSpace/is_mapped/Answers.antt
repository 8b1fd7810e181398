use Rattle.std.proofs.Common.{◌≡◌, Some, ap, sym, option_map, ◌∙◌, rules}
use Rattle.pager_model.specs.declared.tile.Mapping.{Mapping}
use Rattle.tiles.specs.Resident.{mapping_at}
use Rattle.told_space.specs.Told.{dirty_in}
use Rattle.told_space.proofs.space.ToldSpace.is_mapped.Goals as goal

pub returns-in-Some-clause-mapped : goal.returns-in-Some-clause-mapped
returns-in-Some-clause-mapped c = λ same.
    let mapping = c.in-Some.mapping in
    let at : mapping_at c.args.self.now.space.pages c.args.page ≡ Some mapping = sym c.mapping.ensures ∙ c.in-Some.is in
    ((mapping.frame, ap (option_map (λ (m : Mapping). m.frame)) at), ap dirty_in at ∙ search rules)
