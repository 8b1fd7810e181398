use Rattle.space_core.proofs.PlaceLists.{put_in}
use Rattle.space_core.proofs.places.Places.put.Goals as goal

pub returns : goal.returns
returns c =
    rw (← c.self.view_is, c.grow_to.ensures.grown, c.number-number.ensures)
    (put_in c.self.inside.items.items c.self.inside.count c.args.frame.number c.args.frame c.self.invariant.0
    (rw (← c.self.view_is) at c.requires))
