use Rattle.std.proofs.Common.{◌≡◌, ◌<◌, ◌≤◌, Some, is_some, refl, sym, ap, ◌∙◌, subst, arith}
use Rattle.std.specs.List.{slice_index}
use Rattle.std.proofs.lemmas.Bool.{eq-eqb}
use Rattle.tiles.specs.KeptEntries.{IsKept, Grows}
use Rattle.tiles.specs.TableEntries.{pages_in, part_of, AreParts, Maps}
use Rattle.tiles.proofs.EntryChanges.{join_kept, kept_entries, part_row}
use Rattle.tiles.proofs.CountChanges.{Given, eight_there, few_between, join_counts}
use Rattle.tiles.proofs.mixed.Mixed.join.Goals as goal
use Rattle.tiles.proofs.mixed.Mixed.join.Goals.{After-self, After-join}
use Rattle.tiles.proofs.mixed.Mixed.join.Given.{Over}
use Rattle.pager_model.specs.Bounds.{space_pages}

-- the parts, in what is kept
parts : (g : Over) (c : After-self g) → AreParts c.args.whole.now c.self.inside.tree
parts g c = subst (AreParts c.args.whole.now) (sym c.self.view_is) c.requires.parts

pub join-requires-clause-parts : goal.join-requires-clause-parts
join-requires-clause-parts g c =
    let whole = c.args.whole.now in
    ap is_some (part_row c.self.inside.tree whole whole.extent.first (parts g (goal.at.join-requires-clause-parts g c).After-self) refl)

there : (g : Over) (c : After-self g) → Given c.self.inside.tree c.args.whole.now.extent (λ page. Some (part_of c.args.whole.now page))
there g c page at = (parts g c).at page (eq-eqb _ _ at)

first : (g : Over) (c : After-self g) → c.args.whole.now.extent.first < space_pages
first g c =
    let whole = c.args.whole.now in
    let t = c.self.inside.tree in
    (kept_entries t c.self.invariant.0).in_space whole.extent.first (part_of whole whole.extent.first) (there g c whole.extent.first refl)

after : (g : Over) (c : After-join g)
    → IsKept c.join.new.self × Maps c.args.whole.now.extent (λ _. Some c.args.whole.now) c.self.inside.tree c.join.new.self
    × (pages_in c.join.new.self ≡ pages_in c.self.inside.tree)
after g c =
    join_kept c.self.inside.tree c.join.new.self c.args.whole.now c.self.invariant.0 c.requires.large c.requires.extent
    (parts g (goal.at.After-join g c).After-self) c.join.ensures.rows c.join.ensures.splits

pub subtract-requires : goal.subtract-requires
subtract-requires g c =
    let self = (goal.at.subtract-requires g c).After-self in
    subst (λ k. 8 ≤ slice_index c.self.inside.counts k) (sym c.smaller.ensures)
    (eight_there c.self.inside.tree c.args.whole.now c.self.inside.counts c.requires.large c.requires.extent (first g self)
    (there g self) c.self.invariant.1)

pub add-requires : goal.add-requires
add-requires g c =
    omega (arith, few_between c.self.inside.tree c.self.inside.counts c.subtract.new.counts c.smaller.result 8 c.args.whole.now.extent.size c.requires.extent.0 c.self.invariant.1 c.subtract.ensures)

pub invariant_of-self : goal.invariant_of-self
invariant_of-self g c =
    let self = (goal.at.invariant_of-self g c).After-self in
    let is = after g (goal.at.invariant_of-self g c).After-join in (
      is.0,
      join_counts c.self.inside.tree c.join.new.self c.args.whole.now c.self.inside.counts c.subtract.new.counts c.add.new.counts c.requires.large c.requires.extent (first g self) (there g self) is.1 c.self.invariant.1
          (subst (λ k. Grows k 8 c.subtract.new.counts c.self.inside.counts) c.smaller.ensures c.subtract.ensures) c.add.ensures,
    )

pub returns-clause-entries : goal.returns-clause-entries
returns-clause-entries g c =
    subst (λ t. Maps c.args.whole.now.extent (λ _. Some c.args.whole.now) t c.join.new.self) c.self.view_is
    (after g (goal.at.returns-clause-entries g c).After-join).1

pub returns-clause-pages : goal.returns-clause-pages
returns-clause-pages g c = (after g (goal.at.returns-clause-pages g c).After-join).2 ∙ ap pages_in c.self.view_is
