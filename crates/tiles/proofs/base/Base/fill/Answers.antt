use Rattle.std.proofs.Common.{◌≡◌, ◌≢◌, ◌<◌, ℕ, None, Some, sym, subst}
use Rattle.tiles.specs.TableEntries.{entry_at}
use Rattle.tiles.specs.Changes.{IsTileChange}
use Rattle.tiles.specs.Kept.{ArePages}
use Rattle.tiles.specs.Resident.{Maps, mapping_at, frames_in, frame_of_page}
use Rattle.tiles.specs.contracts.base.Base.{the_view}
use Rattle.tiles.proofs.EntryTiles.{none_says, unmapped}
use Rattle.tiles.proofs.KeptPages.{room_for_one, fill_kept, tile_there}
use Rattle.tiles.proofs.Largest.{tile_absent}
use Rattle.tiles.proofs.PageChanges.{tile_change_of}
use Rattle.tiles.proofs.base.Base.fill.Goals as goal
use Rattle.tiles.proofs.base.Base.fill.Goals.{After-fill-entry}
use Rattle.tiles.proofs.base.Base.fill.Given.{Over}

pub fill-entry-requires-clause-absent : goal.fill-entry-requires-clause-absent
fill-entry-requires-clause-absent g c = rw c.self.view_is (unmapped c.args.self.now c.args.page c.requires.absent)

pub fill-entry-requires-clause-room : goal.fill-entry-requires-clause-room
fill-entry-requires-clause-room g c =
    let absent = unmapped c.args.self.now c.args.page c.requires.absent in
    rw c.self.view_is (room_for_one c.args.self.now
    (rw c.self.view_is at c.self.invariant) c.args.page c.args.mapping absent c.requires.known c.requires.other c.requires.page)

pub fill-entry-requires-clause-page : goal.fill-entry-requires-clause-page
fill-entry-requires-clause-page g c = c.requires.page

pub fill-entry-requires-clause-tiles : goal.fill-entry-requires-clause-tiles
fill-entry-requires-clause-tiles g c = c.self.invariant.tiles

module _ (g : Over) (c : After-fill-entry g) where
  absent : entry_at (the_view c.self.inside) c.args.page ≡ None
  absent = rw c.self.view_is (unmapped c.args.self.now c.args.page c.requires.absent)

  known : c.args.mapping.frame < frames_in (the_view c.self.inside)
  known = subst (λ r. c.args.mapping.frame < frames_in r) (sym c.self.view_is) c.requires.known

  other : (p : ℕ) → frame_of_page (the_view c.self.inside) p ≢ Some c.args.mapping.frame
  other = subst (λ r. (p : ℕ) → frame_of_page r p ≢ Some c.args.mapping.frame) (sym c.self.view_is) c.requires.other

  kept : ArePages c.fill-entry.new.map
  kept =
      let made = c.fill-entry.ensures in
      fill_kept (the_view c.self.inside) c.self.invariant c.args.page c.args.mapping absent known other c.fill-entry.new.map made.tiles
      (record { frames = made.frames; at = made.pages })

pub invariant_of-self : goal.invariant_of-self
invariant_of-self g c = kept g (goal.at.invariant_of-self g c).After-fill-entry

pub returns-clause-change : goal.returns-clause-change
returns-clause-change g c =
    let made = c.fill-entry.ensures in
    let r = the_view c.self.inside in
    let s = c.fill-entry.new.map in
    let page = c.args.page in
    let b = (goal.at.returns-clause-change g c).After-fill-entry in
    subst (λ q. IsTileChange page q s (record { before = None; after = Some c.tile.result })) c.self.view_is
    (tile_change_of r s c.self.invariant (kept g b) page _
    (sym (tile_absent (mapping_at r) page (none_says r page (absent g b))))
    (tile_there s page c.fill-entry.result c.tile.result made.tiles made.there c.tile.ensures))

pub returns-clause-maps : goal.returns-clause-maps
returns-clause-maps g c =
    let made = c.fill-entry.ensures in
    subst (λ r. Maps c.args.page (Some c.args.mapping) r c.fill-entry.new.map) c.self.view_is
    (record { frames = made.frames; at = made.pages })
