use Rattle.std.proofs.Common.{◌≡◌, ◌-◌, ◌*◌, ◌^◌, Some, is_some, ap, ◌∙◌, subst, arith}
use Rattle.pager_model.specs.Tiles.{moved_by}
use Rattle.pager_model.proofs.ExtentLemmas.{eight_parts}
use Rattle.tiles.specs.KeptEntries.{IsKept, Grows}
use Rattle.tiles.specs.TableEntries.{entry_at, part_of, pages_in, Maps}
use Rattle.tiles.proofs.EntryChanges.{kept_entries, mapped_room, split_kept}
use Rattle.tiles.proofs.CountChanges.{is_there, one_there, few_between, split_counts}
use Rattle.tiles.proofs.mixed.Mixed.split.Goals as goal
use Rattle.tiles.proofs.mixed.Mixed.split.Goals.{After-pages, After-self, After-split}
use Rattle.tiles.proofs.mixed.Mixed.split.Given.{Over}

-- how many pages a part has
pages : (g : Over) (c : After-pages g) → c.pages.result ≡ 8 ^ (c.args.entry.now.extent.size - 1)
pages g c = c.pages.ensures ∙ ap (λ k. 8 ^ k) c.smaller-part.ensures

pub parts_from-parts-requires : goal.parts_from-parts-requires
parts_from-parts-requires g c = omega (arith, pages g c, eight_parts c.args.entry.now.extent.size c.requires.large, c.requires.fits)

there : (g : Over) (c : After-self g) → entry_at c.self.inside.tree c.args.entry.now.extent.first ≡ Some c.args.entry.now
there g c = ap (λ t. entry_at t c.args.entry.now.extent.first) c.self.view_is ∙ c.requires.there

pub split-requires-clause-page : goal.split-requires-clause-page
split-requires-clause-page g c =
    let t = c.self.inside.tree in
    let kept = c.self.invariant.0 in
    omega (
      arith,
      (kept_entries t kept).in_space c.args.entry.now.extent.first c.args.entry.now
          (there g (goal.at.split-requires-clause-page g c).After-self),
      kept.roots,
    )

pub split-requires-clause-room : goal.split-requires-clause-room
split-requires-clause-room g c =
    let extent = c.args.entry.now.extent in
    mapped_room c.self.inside.tree (extent.size - 1) extent.first c.self.invariant.0
    (ap is_some (there g (goal.at.split-requires-clause-room g c).After-self))

after : (g : Over) (c : After-split g)
    → IsKept c.split.new.self × Maps c.args.entry.now.extent (λ page. Some
    (part_of c.args.entry.now page)) c.self.inside.tree c.split.new.self × (pages_in c.split.new.self ≡ pages_in c.self.inside.tree)
after g c =
    let entry = c.args.entry.now in
    split_kept c.self.inside.tree c.split.new.self entry c.parts_from-parts.result c.self.invariant.0 c.requires.large
    (there g (goal.at.After-split g c).After-self)
    (λ part small. c.parts_from-parts.ensures part small ∙ ap (λ n. Some (moved_by (part * n) entry.mapping))
    (pages g (goal.at.After-split g c).After-pages))
    c.split.ensures.rows c.split.ensures.splits

pub subtract-requires : goal.subtract-requires
subtract-requires g c =
    let at = there g (goal.at.subtract-requires g c).After-self in
    one_there c.self.inside.tree c.args.entry.now c.self.inside.counts
    (is_there c.self.inside.tree c.args.entry.now c.self.invariant.0 at) c.self.invariant.1

pub add-requires : goal.add-requires
add-requires g c =
    let t = c.self.inside.tree in
    let entry = c.args.entry.now in
    let low = (kept_entries t c.self.invariant.0).low entry.extent.first entry (there g (goal.at.add-requires g c).After-self) in
    omega (
      arith,
      few_between t c.self.inside.counts c.subtract.new.counts entry.extent.size 1 c.smaller-part.result
          (omega (arith, low, c.smaller-part.ensures)) c.self.invariant.1 c.subtract.ensures,
    )

pub invariant_of-self : goal.invariant_of-self
invariant_of-self g c =
    let t = c.self.inside.tree in
    let entry = c.args.entry.now in
    let at = there g (goal.at.invariant_of-self g c).After-self in
    let is = after g (goal.at.invariant_of-self g c).After-split in (
      is.0,
      split_counts t c.split.new.self entry c.self.inside.counts c.subtract.new.counts c.add.new.counts c.requires.large
          (is_there t entry c.self.invariant.0 at) is.1 c.self.invariant.1 c.subtract.ensures
          (subst (λ k. Grows k 8 c.subtract.new.counts c.add.new.counts) c.smaller-part.ensures c.add.ensures),
    )

pub returns-clause-entries : goal.returns-clause-entries
returns-clause-entries g c =
    subst (λ t. Maps c.args.entry.now.extent (λ page. Some (part_of c.args.entry.now page)) t c.split.new.self) c.self.view_is
    (after g (goal.at.returns-clause-entries g c).After-split).1

pub returns-clause-pages : goal.returns-clause-pages
returns-clause-pages g c = (after g (goal.at.returns-clause-pages g c).After-split).2 ∙ ap pages_in c.self.view_is
