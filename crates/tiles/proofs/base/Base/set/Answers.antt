use Rattle.std.proofs.Common.{◌≡◌, Some, ap, subst, ◌∙◌, arith}
use Rattle.tiles.specs.TableEntries.{entry_at}
use Rattle.tiles.specs.Changes.{IsTileChange}
use Rattle.tiles.specs.Kept.{ArePages, MapsExtent}
use Rattle.tiles.specs.contracts.base.Base.{the_view}
use Rattle.tiles.proofs.KeptPages.{entry_fits, set_kept, tile_there}
use Rattle.tiles.proofs.PageChanges.{tile_change_of}
use Rattle.tiles.proofs.base.Base.set.Goals as goal
use Rattle.tiles.proofs.base.Base.set.Goals.{After-set-after}
use Rattle.tiles.proofs.base.Base.set.Given.{Over}

pub set-after-requires-clause-fits : goal.set-after-requires-clause-fits
set-after-requires-clause-fits g c =
    let fits = entry_fits c.args.self.now (rw c.self.view_is at c.self.invariant) c.args.page c.args.entry c.requires.there in
    omega (arith, fits.frames, fits.few)

pub set-after-requires-clause-there : goal.set-after-requires-clause-there
set-after-requires-clause-there g c = ap (λ r. entry_at r c.args.page) c.self.view_is ∙ c.requires.there

pub set-after-requires-clause-tiles : goal.set-after-requires-clause-tiles
set-after-requires-clause-tiles g c = c.self.invariant.tiles

pub set-after-requires-clause-frame : goal.set-after-requires-clause-frame
set-after-requires-clause-frame g c = c.requires.frame

pub set-after-requires-clause-other : goal.set-after-requires-clause-other
set-after-requires-clause-other g c = c.requires.other

module _ (g : Over) (c : After-set-after g) where
  there : entry_at (the_view c.self.inside) c.args.page ≡ Some c.args.entry
  there = ap (λ r. entry_at r c.args.page) c.self.view_is ∙ c.requires.there

  kept : ArePages c.set-after.new.map
  kept =
      let made = c.set-after.ensures in
      set_kept (the_view c.self.inside) c.set-after.new.map c.args.size c.args.page c.args.mapping c.args.entry c.self.invariant there c.requires.size c.requires.first c.requires.frame made.tiles (record { frames = made.frames; at = made.pages })

pub invariant_of-self : goal.invariant_of-self
invariant_of-self g c = kept g (goal.at.invariant_of-self g c).After-set-after

pub returns-clause-change : goal.returns-clause-change
returns-clause-change g c =
    let made = c.set-after.ensures in
    let r = the_view c.self.inside in
    let s = c.set-after.new.map in
    let page = c.args.page in
    let b = (goal.at.returns-clause-change g c).After-set-after in
    subst (λ q. IsTileChange page q s (record { before = Some c.tile.result; after = Some c.tile-2.result })) c.self.view_is
    (tile_change_of r s c.self.invariant (kept g b) page _
    (tile_there r page c.args.entry c.tile.result c.self.invariant.tiles (there g b) c.tile.ensures)
    (tile_there s page c.set-after.result c.tile-2.result made.tiles made.there c.tile-2.ensures))

pub returns-clause-maps : goal.returns-clause-maps
returns-clause-maps g c =
    let made = c.set-after.ensures in
    subst (λ r. MapsExtent c.args.size c.args.page c.args.mapping r c.set-after.new.map) c.self.view_is
    (record { frames = made.frames; at = made.pages })
