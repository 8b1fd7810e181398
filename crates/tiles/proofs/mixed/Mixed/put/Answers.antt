use Rattle.std.proofs.Common.{◌≡◌, ◌+◌, ◌^◌, ◌<◌, ◌≤◌, Some, None, refl, ap, ◌∙◌, subst, arith}
use Rattle.std.proofs.lemmas.Bool.{eq-eqb}
use Rattle.pager_model.proofs.ExtentLemmas.{eight_pos}
use Rattle.tiles.specs.KeptEntries.{IsKept}
use Rattle.tiles.specs.TableEntries.{entry_at, pages_in, frames_in, Maps}
use Rattle.tiles.proofs.EntryChanges.{put_kept, put_room}
use Rattle.tiles.proofs.CountChanges.{Given, few, put_counts}
use Rattle.tiles.proofs.mixed.Mixed.put.Goals as goal
use Rattle.tiles.proofs.mixed.Mixed.put.Goals.{After-put}
use Rattle.tiles.proofs.mixed.Mixed.put.Given.{Over}

pub put-requires-clause-room : goal.put-requires-clause-room
put-requires-clause-room g c =
    let t = c.self.inside.tree in
    let extent = c.args.entry.now.extent in
    let kept = c.self.invariant.0 in
    let none : entry_at t extent.first ≡ None = ap (λ t. entry_at t extent.first) c.self.view_is
    ∙ c.requires.apart extent.first (eq-eqb _ _ refl) in
    let room : pages_in t < frames_in t = omega (
      arith,
      c.requires.room,
      eight_pos extent.size,
      ap pages_in c.self.view_is,
      ap (λ t. t.room) c.self.view_is,
    ) in
    put_room t extent.size extent.first kept (omega (arith, kept.roots, c.requires.inside)) none room

apart : (g : Over) (c : After-put g) → Given c.self.inside.tree c.args.entry.now.extent (λ _. None)
apart g c page same = ap (λ t. entry_at t page) c.self.view_is ∙ c.requires.apart page (eq-eqb _ _ same)

after : (g : Over) (c : After-put g)
    → IsKept c.put.new.self × Maps c.args.entry.now.extent (λ _. Some c.args.entry.now) c.self.inside.tree c.put.new.self
    × (pages_in c.put.new.self ≡ pages_in c.self.inside.tree + 8 ^ c.args.entry.now.extent.size)
after g c =
    let t = c.self.inside.tree in
    let entry = c.args.entry.now in
    let room : pages_in t + 8 ^ entry.extent.size ≤ frames_in t = omega
    (arith, c.requires.room, ap pages_in c.self.view_is, ap (λ t. t.room) c.self.view_is) in
    put_kept t c.put.new.self entry c.self.invariant.0 c.requires.extent c.requires.inside
    (apart g c) room c.put.ensures.row c.put.ensures.splits

pub add-requires : goal.add-requires
add-requires g c = omega
    (arith, few c.self.inside.tree c.self.inside.counts c.args.entry.now.extent.size c.requires.extent.0 c.self.invariant.1)

pub invariant_of-self : goal.invariant_of-self
invariant_of-self g c =
    let made = (goal.at.invariant_of-self g c).After-put in
    let is = after g made in
    (is.0, put_counts c.self.inside.tree c.put.new.self c.args.entry.now c.self.inside.counts c.add.new.counts c.requires.extent c.requires.inside (apart g made) is.1 c.self.invariant.1 c.add.ensures)

pub returns-clause-entries : goal.returns-clause-entries
returns-clause-entries g c = subst (λ t. Maps c.args.entry.now.extent (λ _. Some c.args.entry.now) t c.put.new.self) c.self.view_is
    (after g (goal.at.returns-clause-entries g c).After-put).1

pub returns-clause-pages : goal.returns-clause-pages
returns-clause-pages g c = (after g (goal.at.returns-clause-pages g c).After-put).2
    ∙ ap (λ t. pages_in t + 8 ^ c.args.entry.now.extent.size) c.self.view_is
