use Rattle.std.proofs.Common.{◌≡◌, cond, None, Some, ap, sym, refl, subst, ◌∙◌, arith}
use Rattle.std.proofs.lemmas.Bool.{eq-eqb}
use Rattle.tiles.specs.TableEntries.{entry_at}
use Rattle.tiles.specs.Changes.{IsTileChange}
use Rattle.tiles.specs.Kept.{ArePages}
use Rattle.tiles.specs.Resident.{mapping_at}
use Rattle.tiles.specs.contracts.base.Base.{the_view}
use Rattle.tiles.proofs.KeptPages.{entry_fits, remove_kept, tile_there}
use Rattle.tiles.proofs.Largest.{tile_absent}
use Rattle.tiles.proofs.PageChanges.{tile_change_of}
use Rattle.tiles.proofs.base.Base.remove.Goals as goal
use Rattle.tiles.proofs.base.Base.remove.Goals.{After-remove}
use Rattle.tiles.proofs.base.Base.remove.Given.{Over}

pub remove-requires-clause-fits : goal.remove-requires-clause-fits
remove-requires-clause-fits g c =
    let fits = entry_fits c.args.self.now (rw c.self.view_is at c.self.invariant) c.args.page c.args.entry c.requires in
    omega (arith, fits.frames, fits.few)

kept : (g : Over) (c : After-remove g) → ArePages c.remove.new.map
kept g c =
    let made = c.remove.ensures in
    remove_kept (the_view c.self.inside) c.remove.new.map c.args.page c.self.invariant made.tiles
    (record { frames = made.frames; at = made.pages })

pub invariant_of-self : goal.invariant_of-self
invariant_of-self g c = kept g (goal.at.invariant_of-self g c).After-remove

pub returns-clause-change : goal.returns-clause-change
returns-clause-change g c =
    let made = c.remove.ensures in
    let r = the_view c.self.inside in
    let s = c.remove.new.map in
    let page = c.args.page in
    let there : entry_at r page ≡ Some c.args.entry = ap (λ r. entry_at r page) c.self.view_is ∙ c.requires in
    subst (λ q. IsTileChange page q s (record { before = Some c.tile.result; after = None })) c.self.view_is
    (tile_change_of r s c.self.invariant (kept g (goal.at.returns-clause-change g c).After-remove) page _
    (tile_there r page c.args.entry c.tile.result c.self.invariant.tiles there c.tile.ensures)
    (sym (tile_absent (mapping_at s) page (made.pages page ∙ ap (λ b. cond b None (mapping_at r page)) (eq-eqb page page refl)))))
