use Rattle.std.proofs.Common.{◌≡◌, Some, is_some, ap, ◌∙◌, subst, arith}
use Rattle.pager_model.specs.Extents.{IsExtent}
use Rattle.tiles.specs.KeptEntries.{IsKept}
use Rattle.tiles.specs.TableEntries.{entry_at, pages_in, Maps}
use Rattle.tiles.proofs.EntryChanges.{kept_entries, mapped_room, replace_kept, same_extent}
use Rattle.tiles.proofs.CountChanges.{replace_counts}
use Rattle.tiles.proofs.Mappings.{is_extent}
use Rattle.tiles.proofs.mixed.Mixed.replace.Goals as goal
use Rattle.tiles.proofs.mixed.Mixed.replace.Goals.{After-self, After-put}
use Rattle.tiles.proofs.mixed.Mixed.replace.Given.{Over}

there : (g : Over) (c : After-self g) → entry_at c.self.inside.tree c.args.entry.now.extent.first ≡ Some c.requires.0
there g c = ap (λ t. entry_at t c.args.entry.now.extent.first) c.self.view_is ∙ c.requires.1

pub put-requires-clause-page : goal.put-requires-clause-page
put-requires-clause-page g c =
    let t = c.self.inside.tree in
    let kept = c.self.invariant.0 in
    omega (
      arith,
      (kept_entries t kept).in_space c.args.entry.now.extent.first c.requires.0
          (there g (goal.at.put-requires-clause-page g c).After-self),
      kept.roots,
    )

pub put-requires-clause-room : goal.put-requires-clause-room
put-requires-clause-room g c =
    let extent = c.args.entry.now.extent in
    mapped_room c.self.inside.tree extent.size extent.first c.self.invariant.0
    (ap is_some (there g (goal.at.put-requires-clause-room g c).After-self))

after : (g : Over) (c : After-put g)
    → IsKept c.put.new.self × Maps c.args.entry.now.extent (λ _. Some c.args.entry.now) c.self.inside.tree c.put.new.self
    × (pages_in c.put.new.self ≡ pages_in c.self.inside.tree)
after g c =
    replace_kept c.self.inside.tree c.put.new.self c.args.entry.now c.requires.0 c.self.invariant.0
    (there g (goal.at.After-put g c).After-self) c.requires.2 c.put.ensures.row c.put.ensures.splits

pub invariant_of-self : goal.invariant_of-self
invariant_of-self g c =
    let t = c.self.inside.tree in
    let entry = c.args.entry.now in
    let kept = c.self.invariant.0 in
    let at = there g (goal.at.invariant_of-self g c).After-self in
    let entries = kept_entries t kept in
    let is = after g (goal.at.invariant_of-self g c).After-put in (
      is.0,
      replace_counts t c.put.new.self entry c.requires.0 c.self.inside.counts
          (subst (λ x. IsExtent x.size x.first) c.requires.2 (is_extent t entry.extent.first c.requires.0 entries at))
          (entries.in_space entry.extent.first c.requires.0 at) c.requires.2
          (same_extent t entry.extent c.requires.0 kept at c.requires.2) is.1 c.self.invariant.1,
    )

pub returns-clause-entries : goal.returns-clause-entries
returns-clause-entries g c = subst (λ t. Maps c.args.entry.now.extent (λ _. Some c.args.entry.now) t c.put.new.self) c.self.view_is
    (after g (goal.at.returns-clause-entries g c).After-put).1

pub returns-clause-pages : goal.returns-clause-pages
returns-clause-pages g c = (after g (goal.at.returns-clause-pages g c).After-put).2 ∙ ap pages_in c.self.view_is
