use Rattle.std.proofs.Common.{◌∙◌, sym, subst, true}
use Rattle.space_core.specs.contracts.table.PageTable.{the_view}
use Rattle.space_core.proofs.TableLemmas.{flagged_paged, frame_flagged, sets_flagged}
use Rattle.tiles.specs.Changes.{moves_of}
use Rattle.tiles.specs.Resident.{Resident, mapping_at}
use Rattle.tiles.specs.Sized.{AreMovesIn}
use Rattle.space_core.proofs.table.PageTable.set_word.Goals as goal

pub invariant_of-self : goal.invariant_of-self
invariant_of-self c = flagged_paged (the_view c.self.inside) c.self.invariant c.args.page true _ c.after_dirty-changes.ensures.maps

pub write_word_by-requires-clause-resident : goal.write_word_by-requires-clause-resident
write_word_by-requires-clause-resident c = (
  c.args.page,
  frame_flagged (the_view c.self.inside) c.args.page true _ c.after_dirty-changes.ensures.maps c.args.page
      ∙ rw (← c.self.view_is) at c.requires.resident,
)

pub returns-clause-writes : goal.returns-clause-writes
returns-clause-writes c =
    let has = frame_flagged (the_view c.self.inside) c.args.page true _ c.after_dirty-changes.ensures.maps c.args.page
    ∙ rw (← c.self.view_is) at c.requires.resident in
    rw (← c.self.view_is)
    (sets_flagged (the_view c.self.inside) c.args.page c.args.index c.args.word _ c.after_dirty-changes.ensures.maps _
    (c.write_word_by.ensures c.args.page has))

pub returns-clause-moves : goal.returns-clause-moves
returns-clause-moves c =
    let has = frame_flagged (the_view c.self.inside) c.args.page true _ c.after_dirty-changes.ensures.maps c.args.page
    ∙ rw (← c.self.view_is) at c.requires.resident in
    let sets = c.write_word_by.ensures c.args.page has in
    rw (← c.self.view_is, c.moves-moves.ensures)
    (subst (λ (r : Resident). AreMovesIn c.self.inside.sizes (mapping_at c.self.inside.pages) (mapping_at r)
    (moves_of c.self.inside.sizes c.after_dirty-changes.result)) (sym sets.pages)
    (c.after_dirty-changes.ensures.changes.moves_in c.self.inside.sizes))
