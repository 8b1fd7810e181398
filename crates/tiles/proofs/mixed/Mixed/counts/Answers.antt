use Rattle.std.proofs.Common.{subst, ◌≡◌, ◌∷◌, [], arith}
use Rattle.tiles.specs.TableEntries.{entry_count}
use Rattle.tiles.proofs.CountChanges.{are_four}
use Rattle.tiles.proofs.mixed.Mixed.counts.Goals as goal

pub returns : goal.returns
returns c =
    let is = c.self.invariant.1 in
    subst (λ m. c.self.inside.counts ≡ entry_count m 0 ∷ entry_count m 1 ∷ entry_count m 2 ∷ entry_count m 3 ∷ []) c.self.view_is
    (are_four c.self.inside.counts _ _ _ _ is.four (is.each 0 (omega arith)) (is.each 1 (omega arith)) (is.each 2 (omega arith))
    (is.each 3 (omega arith)))
