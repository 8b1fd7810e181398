use Rattle.std.proofs.Common.{ap, ◌∙◌}
use Rattle.pager_model.specs.SpaceStates.{tile_at}
use Rattle.tiles.specs.Resident.{mapping_at}
use Rattle.miss_curves.specs.Histories.{use_of}
use Rattle.miss_curves.proofs.FollowedEntries.{Told-followed}
use Rattle.miss_curves.proofs.entries.follow_entry.Goals as goal

pub used_page-page-requires : goal.used_page-page-requires
used_page-page-requires c = c.requires.next.1.line

pub returns-clause-stands : goal.returns-clause-stands
returns-clause-stands c = λ g history sizes next stands.
    let old = c.args.space.now in
    let page = c.used_page-page.result in
    let used =
    c.use_of.ensures ∙ ap (λ b. use_of b c.tile_at-after.result) c.tile_at-before.ensures
    ∙ ap (use_of (tile_at c.args.sizes (mapping_at old.pages) page)) c.tile_at-after.ensures in
    let used_base =
    c.use_of-2.ensures ∙ ap (λ b. use_of b c.tile_at-base_after.result) c.tile_at-base_before.ensures
    ∙ ap (use_of (tile_at c.base_alone-base.result (mapping_at old.pages) page)) c.tile_at-base_after.ensures
    ∙ ap (λ z. use_of (tile_at z (mapping_at old.pages) page) (tile_at z (mapping_at c.follow-changed.new.self.pages) page))
    c.base_alone-base.ensures in
    c.tell.ensures.stands g history old.pages c.follow-changed.ensures.changed
    (Told-followed g history c.args.entry.now old c.follow-changed.new.self page _ sizes next c.follow-changed.ensures.follows
    c.used_page-page.ensures used used_base)
    stands
