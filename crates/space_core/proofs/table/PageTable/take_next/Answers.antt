use Rattle.std.proofs.Common.{◌∙◌, ap, sym, None, Some}
use Rattle.space_core.specs.contracts.table.PageTable.{the_view}
use Rattle.space_core.proofs.TableLemmas.{frame_in-is, frame-number, frame-there, next_some, next_none, take_paged, take_maps}
use Rattle.space_core.proofs.table.PageTable.take_next.Goals as goal

pub invariant_of-self : goal.invariant_of-self
invariant_of-self c = rw c.in_err-page.ensures.none.1 c.self.invariant

pub returns-in_err-page-clause-none : goal.returns-in_err-page-clause-none
returns-in_err-page-clause-none c =
    let t = the_view c.self.inside in
    let e = c.in_err-page.ensures.none in
    rw (c.from_residual.ensures, ← c.self.view_is) (
      next_none t c.args.from c.args.end None e.0,
      ap (λ pages. record t { pages = pages }) e.1,
    )

pub invariant_of-self-in_err-frame : goal.invariant_of-self-in_err-frame
invariant_of-self-in_err-frame c =
    let t = the_view c.self.inside in
    let e = c.in_ok-page.ensures.some in
    rw c.take.ensures.after (take_paged t c.self.invariant c.in_ok-page.page _ _ e.2 (frame_in-is t c.in_ok-page.page ∙ e.1))

pub returns-in_err-frame-clause-none : goal.returns-in_err-frame-clause-none
returns-in_err-frame-clause-none c =
    let t = the_view c.self.inside in
    let has = frame_in-is t c.in_ok-page.page ∙ c.in_ok-page.ensures.some.1 in
    absurd (frame-there t c.self.invariant _ _ has (sym c.take.ensures.frame ∙ c.in_err-frame.was))

pub invariant_of-self-2 : goal.invariant_of-self-2
invariant_of-self-2 c =
    let t = the_view c.self.inside in
    let e = c.in_ok-page.ensures.some in
    rw c.take.ensures.after (take_paged t c.self.invariant c.in_ok-page.page _ _ e.2 (frame_in-is t c.in_ok-page.page ∙ e.1))

pub returns-clause-some : goal.returns-clause-some
returns-clause-some c =
    let t = the_view c.self.inside in
    let e = c.in_ok-page.ensures.some in
    let has = frame_in-is t c.in_ok-page.page ∙ e.1 in
    rw (← c.self.view_is, c.take.ensures.after) (
      next_some t c.args.from c.args.end (Some c.in_ok-page.page) e.0,
      has
          ∙ ap Some (sym (frame-number t c.self.invariant _ _ _ has (sym c.take.ensures.frame ∙ c.in_ok-frame.was))),
      take_maps t c.self.invariant c.in_ok-page.page _ _ e.2 has,
    )
