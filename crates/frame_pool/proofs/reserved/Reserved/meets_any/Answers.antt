use Rattle.std.proofs.Common.{inl, inr, sym, ap, ◌∙◌}
use Rattle.std.proofs.lemmas.Bool.{cases_Bool, OnTrue_at, OnFalse_at}
use Rattle.pager_model.specs.Layouts.{Layout, meets_any}
use Rattle.frame_pool.proofs.MappedLooks.{IsOfSpace, meets_any-looked, meets_any-not_looked}
use Rattle.frame_pool.proofs.reserved.Reserved.meets_any.Goals as goal

pub returns : goal.returns
returns c =
    let e = c.args.extent.now in
    let inside = c.self.inside in
    let was = c.self.invariant in
    let pages : IsOfSpace e = record { aligned = c.requires.aligned; within = c.requires.within } in
    let seen = ap (λ (l : Layout). meets_any c.args.space l.records e.size e.first) c.self.view_is in
    elim (cases_Bool c.meets.result) [
      | inl is ↦
          let by = OnTrue_at is c.meets.ensures.meets in
          let any = meets_any-looked inside.map inside.reservations.records c.args.space e was.mapped c.requires.few pages by.0 by.1 by.2 in
          is ∙ sym any ∙ seen
      | inr not ↦
          let none = OnFalse_at not c.meets.ensures.apart in
          let nowhere = meets_any-not_looked inside.map inside.reservations.records c.args.space e was.mapped c.requires.few pages
          was.laid.placed none in
          not ∙ sym nowhere ∙ seen
    ]
