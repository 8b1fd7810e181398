use Rattle.std.proofs.Common.{◌≡◌, None, refl, ap, ◌∙◌}
use Rattle.tiles.specs.Changes.{frame_within}
use Rattle.tiles.specs.Resident.{mapping_at}
use Rattle.tiles.proofs.KeptPages.{maps_same}
use Rattle.tiles.proofs.PageChanges.{frame_by_tile}
use Rattle.tiles.proofs.base.Base.after_remove.Goals as goal

pub returns-in_default-clause-maps : goal.returns-in_default-clause-maps
returns-in_default-clause-maps g c =
    let none : None ≡ mapping_at c.args.self.now c.args.page = rw c.in_default.is at c.find.ensures.mapping in
    maps_same c.args.page None c.args.self.now none

pub returns-in_default-clause-changes : goal.returns-in_default-clause-changes
returns-in_default-clause-changes g c = c.none.ensures.changes c.args.self.now c.args.self.now (λ p. refl)

pub returns-clause-changes : goal.returns-clause-changes
returns-clause-changes g c =
    c.of.ensures.changes c.args.self.now c.remove-change.new.self None c.remove-change.ensures.maps c.remove-change.ensures.change

pub returns-clause-frame : goal.returns-clause-frame
returns-clause-frame g c =
    c.of.ensures.frame ∙ ap (frame_within c.args.page) c.remove-change.ensures.change.before
    ∙ frame_by_tile (mapping_at c.args.self.now) c.args.page
