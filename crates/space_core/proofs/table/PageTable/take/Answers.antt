use Rattle.std.proofs.Common.{◌≡◌, ◌∙◌, sym, ap, Some}
use Rattle.space_core.specs.Tables.{frame_in}
use Rattle.space_core.specs.contracts.table.PageTable.{the_view}
use Rattle.space_core.proofs.TableLemmas.{frame_in-is, frame-number, frame-there, take_paged, take_maps, untaken_paged, untaken_maps}
use Rattle.space_core.proofs.table.PageTable.take.Goals as goal
use Rattle.space_core.proofs.table.PageTable.take.Goals.{After-frame_before}

-- the change tells the frame that the page had
told : (c : After-frame_before) → frame_in (the_view c.self.inside) c.args.page ≡ c.frame_before.result
told c = frame_in-is (the_view c.self.inside) c.args.page ∙ sym c.after_remove-changes.ensures.frame ∙ sym c.frame_before.ensures

pub invariant_of-self : goal.invariant_of-self
invariant_of-self c =
    let t = the_view c.self.inside in
    let none = told (goal.at.invariant_of-self c).After-frame_before ∙ c.in_err-number.was in
    untaken_paged t c.args.page _ c.after_remove-changes.ensures.maps none c.self.invariant

pub returns-in_err-number-clause-none : goal.returns-in_err-number-clause-none
returns-in_err-number-clause-none c =
    rw (c.from_residual.ensures, ← c.self.view_is) (told (goal.at.returns-in_err-number-clause-none c).After-frame_before
    ∙ c.in_err-number.was)

pub returns-in_err-number-clause-after : goal.returns-in_err-number-clause-after
returns-in_err-number-clause-after c =
    let t = the_view c.self.inside in
    let none = told (goal.at.returns-in_err-number-clause-after c).After-frame_before ∙ c.in_err-number.was in
    rw (← c.self.view_is) (untaken_maps t c.args.page _ c.after_remove-changes.ensures.maps none)

pub invariant_of-self-in_err-frame : goal.invariant_of-self-in_err-frame
invariant_of-self-in_err-frame c =
    let t = the_view c.self.inside in
    let has = told (goal.at.invariant_of-self-in_err-frame c).After-frame_before ∙ c.in_ok-number.was in
    rw c.take.ensures.after (take_paged t c.self.invariant c.args.page _ _ c.after_remove-changes.ensures.maps has)

pub returns-in_err-frame-clause-none : goal.returns-in_err-frame-clause-none
returns-in_err-frame-clause-none c =
    let t = the_view c.self.inside in
    let has = told (goal.at.returns-in_err-frame-clause-none c).After-frame_before ∙ c.in_ok-number.was in
    absurd (frame-there t c.self.invariant _ _ has (sym c.take.ensures.frame ∙ c.in_err-frame.was))

pub returns-in_err-frame-clause-after : goal.returns-in_err-frame-clause-after
returns-in_err-frame-clause-after c =
    let t = the_view c.self.inside in
    let has = told (goal.at.returns-in_err-frame-clause-after c).After-frame_before ∙ c.in_ok-number.was in
    rw (← c.self.view_is, c.take.ensures.after) (take_maps t c.self.invariant c.args.page _ _ c.after_remove-changes.ensures.maps has)

pub invariant_of-self-2 : goal.invariant_of-self-2
invariant_of-self-2 c =
    let t = the_view c.self.inside in
    let has = told (goal.at.invariant_of-self-2 c).After-frame_before ∙ c.in_ok-number.was in
    rw c.take.ensures.after (take_paged t c.self.invariant c.args.page _ _ c.after_remove-changes.ensures.maps has)

pub returns-clause-some : goal.returns-clause-some
returns-clause-some c =
    let t = the_view c.self.inside in
    let has = told (goal.at.returns-clause-some c).After-frame_before ∙ c.in_ok-number.was in
    rw (← c.self.view_is) (
      has ∙ ap Some (sym (frame-number t c.self.invariant _ _ _ has (sym c.take.ensures.frame ∙ c.in_ok-frame.was))),
      rw c.moves.ensures
          (c.after_remove-changes.ensures.changes.moves_in c.self.inside.sizes),
    )

pub returns-clause-after : goal.returns-clause-after
returns-clause-after c =
    let t = the_view c.self.inside in
    let has = told (goal.at.returns-clause-after c).After-frame_before ∙ c.in_ok-number.was in
    rw (← c.self.view_is, c.take.ensures.after) (take_maps t c.self.invariant c.args.page _ _ c.after_remove-changes.ensures.maps has)
