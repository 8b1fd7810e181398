use Rattle.std.proofs.Common.{ap, ◌∙◌}
use Rattle.lru_stack.specs.Stacks.{hole_at}
use Rattle.lru_stack.proofs.DistinctTiles.{hole-left}
use Rattle.lru_stack.proofs.stack.take_out.Goals as goal

pub returns : goal.returns
returns c =
    let row = c.args.places.now in
    c.make_hole.ensures ∙ ap (λ place. hole_at place row) c.position_of-place.ensures ∙ hole-left c.args.tile.now row c.requires.distinct
