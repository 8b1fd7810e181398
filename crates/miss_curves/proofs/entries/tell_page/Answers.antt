use Rattle.std.proofs.Common.{◌≡◌, rules, subst}
use Rattle.pager_model.specs.declared.tile.Tile.{Tile}
use Rattle.tiles.specs.Changes.{Came}
use Rattle.tiles.specs.Resident.{mapping_at}
use Rattle.miss_curves.specs.Histories.{effect}
use Rattle.miss_curves.proofs.ToldEntries.{answer_at, base_at_page, none_went, tile_at_page, tells_all, tells_still}
use Rattle.miss_curves.proofs.entries.tell_page.Goals as goal

pub returns-then-not-takes_any-clause-stands : goal.returns-then-not-takes_any-clause-stands
returns-then-not-takes_any-clause-stands c = λ g history old others are told stands.
    let new = c.args.space.now.pages in
    c.follow_same.ensures.stands g history
    (tells_still g history (effect c.args.entry.now old new c.args.uses.now)
    (none_went old new c.args.changes.now are (c.takes_any.ensures (search rules))) told) stands

pub returns-clause-stands : goal.returns-clause-stands
returns-clause-stands c = λ g history old others are told stands.
    let new = c.args.space.now.pages in
    let went : Came (mapping_at new) (mapping_at old) c.gone-gone.result = rw c.gone-gone.ensures are.gone in
    c.follow.ensures.stands g history
    (tells_all _ _ g history (effect c.args.entry.now old new c.args.uses.now) told
    (λ t b was answered. tile_at_page c.args.uses.now.sizes (mapping_at old) (mapping_at new) c.gone-gone.result went t b was
    (subst (λ (u : Tile). b ≡ answer_at c.args.uses.now.sizes (mapping_at new) c.gone-gone.result u) answered.shows (search rules)))
    (λ t b was answered. base_at_page c.args.page old new others t b was (search rules)))
    stands
