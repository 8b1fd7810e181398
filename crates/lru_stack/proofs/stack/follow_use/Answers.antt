use Rattle.std.proofs.Common.{◌≤◌, map, Some, ap, sym, subst, ◌∙◌}
use Rattle.std.specs.List.{All, count_by}
use Rattle.lru_stack.specs.Stacks.{AreDistinct, Passes, is_at, kept_at, shifted}
use Rattle.lru_stack.proofs.DistinctTiles.{All-left, distinct-shifted, moved_down-kept}
use Rattle.lru_stack.proofs.stack.follow_use.Goals as goal

pub returns-clause-after : goal.returns-clause-after
returns-clause-after g c = λ was test told all.
    let row = c.args.places.now in
    let t = c.args.used.now.after in
    let left = c.take_out_used.ensures in
    c.push_front.ensures
    ∙ ap (shifted (Some t)) (c.retain.ensures.kept was test told (subst (All (Passes was)) (sym left) (All-left was t row all))
    ∙ ap (map (kept_at test)) left)
    ∙ sym (moved_down-kept t test row)

pub returns-clause-distinct : goal.returns-clause-distinct
returns-clause-distinct g c =
    let t = c.args.used.now.after in
    let kept = c.retain.new.places in
    subst AreDistinct (sym c.push_front.ensures)
    (distinct-shifted t c.args.places.now kept c.requires.distinct
    (λ u. subst (λ row. count_by (is_at u) kept ≤ count_by (is_at u) row) c.take_out_used.ensures (c.retain.ensures.fewer u)))
