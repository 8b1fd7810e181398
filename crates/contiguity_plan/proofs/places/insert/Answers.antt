use Rattle.std.proofs.Common.{sym}
use Rattle.contiguity_plan.proofs.PlaceLemmas.{place_in-changed}
use Rattle.contiguity_plan.proofs.places.insert.Goals as goal

pub returns-clause-inserted : goal.returns-clause-inserted
returns-clause-inserted c =
    place_in-changed c.args.places.now.items c.args.space c.args.page c.insert.new.self c.index_mut.result.now c.index_mut.result.now _ c.requires
    (sym c.index_mut.ensures.value) c.in_ok-insert.ensures.updates.0
