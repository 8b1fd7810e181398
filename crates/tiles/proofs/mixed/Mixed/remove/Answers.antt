use Rattle.std.proofs.Common.{◌≡◌, ◌+◌, ◌^◌, Some, None, is_some, ap, ◌∙◌, subst}
use Rattle.tiles.specs.KeptEntries.{IsKept}
use Rattle.tiles.specs.TableEntries.{entry_at, pages_in, Maps}
use Rattle.tiles.proofs.EntryChanges.{has_row, remove_kept}
use Rattle.tiles.proofs.CountChanges.{is_there, one_there, remove_counts}
use Rattle.tiles.proofs.mixed.Mixed.remove.Goals as goal
use Rattle.tiles.proofs.mixed.Mixed.remove.Goals.{After-self, After-remove}
use Rattle.tiles.proofs.mixed.Mixed.remove.Given.{Over}

there : (g : Over) (c : After-self g) → entry_at c.self.inside.tree c.args.entry.now.extent.first ≡ Some c.args.entry.now
there g c = ap (λ t. entry_at t c.args.entry.now.extent.first) c.self.view_is ∙ c.requires

pub remove-requires : goal.remove-requires
remove-requires g c =
    let entry = c.args.entry.now in
    ap is_some (has_row c.self.inside.tree entry.extent.first entry (there g (goal.at.remove-requires g c).After-self)).is

after : (g : Over) (c : After-remove g)
    → IsKept c.remove.new.self × Maps c.args.entry.now.extent (λ _. None) c.self.inside.tree c.remove.new.self
    × (pages_in c.remove.new.self + 8 ^ c.args.entry.now.extent.size ≡ pages_in c.self.inside.tree)
after g c = remove_kept c.self.inside.tree c.remove.new.self c.args.entry.now c.self.invariant.0
    (there g (goal.at.After-remove g c).After-self) c.remove.ensures.row c.remove.ensures.splits

pub subtract-requires : goal.subtract-requires
subtract-requires g c =
    let at = there g (goal.at.subtract-requires g c).After-self in
    one_there c.self.inside.tree c.args.entry.now c.self.inside.counts
    (is_there c.self.inside.tree c.args.entry.now c.self.invariant.0 at) c.self.invariant.1

pub invariant_of-self : goal.invariant_of-self
invariant_of-self g c =
    let t = c.self.inside.tree in
    let entry = c.args.entry.now in
    let at = there g (goal.at.invariant_of-self g c).After-self in
    let is = after g (goal.at.invariant_of-self g c).After-remove in (
      is.0,
      remove_counts t c.remove.new.self entry c.self.inside.counts c.subtract.new.counts (is_there t entry c.self.invariant.0 at)
          is.1 c.self.invariant.1 c.subtract.ensures,
    )

pub returns-clause-entries : goal.returns-clause-entries
returns-clause-entries g c = subst (λ t. Maps c.args.entry.now.extent (λ _. None) t c.remove.new.self) c.self.view_is
    (after g (goal.at.returns-clause-entries g c).After-remove).1

pub returns-clause-pages : goal.returns-clause-pages
returns-clause-pages g c = (after g (goal.at.returns-clause-pages g c).After-remove).2 ∙ ap pages_in c.self.view_is
