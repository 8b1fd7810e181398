use Rattle.std.proofs.Common.{ap, sym, ◌∙◌}
use Rattle.lru_stack.specs.Stacks.{hole_at}
use Rattle.lru_stack.proofs.DistinctTiles.{hole-found}
use Rattle.lru_stack.proofs.stack.take_out_used.Goals as goal

pub returns-then-is_at : goal.returns-then-is_at
returns-then-is_at c =
    let row = c.args.places.now in
    let used = c.args.used.now in
    c.make_hole.ensures ∙ ap (λ place. hole_at place row) c.requires.found
    ∙ hole-found used.after used.before row c.requires.distinct (sym c.is_at.ensures ∙ c.if-is_at.true)
