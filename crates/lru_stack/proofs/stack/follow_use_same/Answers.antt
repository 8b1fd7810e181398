use Rattle.std.proofs.Common.{map, Some, ap, sym, subst, ◌∙◌, arith}
use Rattle.lru_stack.specs.Stacks.{AreDistinct, left_by, shifted}
use Rattle.lru_stack.proofs.DistinctTiles.{distinct-shifted, moved_down-shifted}
use Rattle.lru_stack.proofs.stack.follow_use_same.Goals as goal

pub returns-clause-after : goal.returns-clause-after
returns-clause-after c =
    let t = c.args.used.now.after in
    c.push_front.ensures ∙ ap (shifted (Some t)) c.take_out_used.ensures ∙ sym (moved_down-shifted t (Some t) c.args.places.now)

pub returns-clause-distinct : goal.returns-clause-distinct
returns-clause-distinct c =
    let t = c.args.used.now.after in
    let row = c.args.places.now in
    subst AreDistinct (sym (c.push_front.ensures ∙ ap (shifted (Some t)) c.take_out_used.ensures))
    (distinct-shifted t row (map (left_by t) row) c.requires.distinct (λ u. omega arith))
