use Rattle.std.proofs.Common.{sym, ◌∙◌}
use Rattle.contiguity_plan.proofs.PlaceLemmas.{place_in-is, place_in-changed}
use Rattle.contiguity_plan.proofs.places.remove.Goals as goal

pub returns-clause-was : goal.returns-clause-was
returns-clause-was c =
    c.remove.ensures.value ∙ sym
    (place_in-is c.args.places.now.items c.args.space c.args.page c.index_mut.result.now c.requires c.index_mut.ensures.value)

pub returns-clause-removed : goal.returns-clause-removed
returns-clause-removed c =
    place_in-changed c.args.places.now.items c.args.space c.args.page c.remove.new.self c.index_mut.result.now c.index_mut.result.now _ c.requires
    (sym c.index_mut.ensures.value) c.remove.ensures.updates.0
