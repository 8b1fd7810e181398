use Rattle.std.proofs.Common.{arith, refl}
use Rattle.space_core.proofs.PlaceLists.{left_empty, written}
use Rattle.space_core.proofs.places.Places.take.Goals as goal

pub returns-in_err-get_mut-clause-after : goal.returns-in_err-get_mut-clause-after
returns-in_err-get_mut-clause-after c =
    rw (← c.self.view_is)
    (left_empty c.self.inside.items.items c.self.inside.count c.args.number (grind (arith, c.in_err-get_mut.ensures.variant)))

pub returns-clause-after : goal.returns-clause-after
returns-clause-after c =
    rw (← c.self.view_is, c.take.ensures.after)
    (written c.self.inside.items.items c.self.inside.count c.args.number _
    (omega (arith, c.in_ok-get_mut.ensures.variant.0 refl, c.self.inside.items.ok.0)))
