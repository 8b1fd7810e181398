use Rattle.std.proofs.Common.{◌∙◌, ap, refl, Some}
use Rattle.space_core.specs.contracts.table.PageTable.{the_view}
use Rattle.space_core.proofs.TableLemmas.{frame_in-is, mapping-absent, put_paged, put_maps}
use Rattle.space_core.proofs.table.PageTable.put.Goals as goal

pub after_fill-changes-requires-clause-absent : goal.after_fill-changes-requires-clause-absent
after_fill-changes-requires-clause-absent c = mapping-absent (the_view c.self.inside) _ (rw (← c.self.view_is) at c.requires.absent)

pub after_fill-changes-requires-clause-other : goal.after_fill-changes-requires-clause-other
after_fill-changes-requires-clause-other c p e =
    (rw (← c.self.view_is) at c.requires.other) p (frame_in-is (the_view c.self.inside) p ∙ e ∙ ap Some c.number-number.ensures)

pub invariant_of-self : goal.invariant_of-self
invariant_of-self c =
    rw c.put.ensures
    (put_paged (the_view c.self.inside) c.args.page _ c.args.frame _
    (record {
      paged = c.self.invariant;
      maps = c.after_fill-changes.ensures.maps;
      number = c.number-number.ensures;
      known = rw (← c.self.view_is) at c.requires.known;
      other = rw (← c.self.view_is) at c.requires.other;
    }))

pub returns-clause-maps : goal.returns-clause-maps
returns-clause-maps c =
    rw (← c.self.view_is, c.put.ensures)
    (put_maps (the_view c.self.inside) c.args.page _ c.args.frame _
    (record {
      paged = c.self.invariant;
      maps = rw c.number-number.ensures at c.after_fill-changes.ensures.maps;
      number = refl;
      known = rw (← c.self.view_is) at c.requires.known;
      other = rw (← c.self.view_is) at c.requires.other;
    }))

pub returns-clause-moves : goal.returns-clause-moves
returns-clause-moves c = rw (← c.self.view_is, c.moves.ensures) (c.after_fill-changes.ensures.changes.moves_in c.self.inside.sizes)
