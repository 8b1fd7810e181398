use Rattle.std.proofs.Common.{sym, subst, ◌∙◌}
use Rattle.journal_core.specs.declared.view.View.{View}
use Rattle.journal_core.specs.Views.{MayGrow}
use Rattle.journal_core.proofs.CommittedEntries.{one_may}
use Rattle.journal_core.proofs.JoinedViews.{board_one, one_tells}
use Rattle.journal_core.proofs.journal.commit.Goals as goal

pub write-number-requires-clause-entry : goal.write-number-requires-clause-entry
write-number-requires-clause-entry c =
    let r = c.requires in
    let pass = c.into_parts-log.ensures.pass in
    let boarded = board_one _ _ _ c.args.pass c.args.author c.into_parts-log.ensures.seat.1 c.into_seat.ensures.seat.1 c.board.ensures.1 in
    subst (λ (v : View). MayGrow v c.args.entry) (sym boarded)
    (one_may c.args.author c.args.pass c.args.entry
    (r.journal.0 ∙ sym r.journal.1) r.parts r.author r.processor r.allowed r.order r.room pass.most pass.processor)

pub returns-clause-place : goal.returns-clause-place
returns-clause-place c =
    let r = c.requires.journal in
    let boarded = board_one _ _ _ c.args.pass c.args.author c.into_parts-log.ensures.seat.1 c.into_seat.ensures.seat.1 c.board.ensures.1 in
    one_tells c.args.author c.args.pass _ _ (r.0 ∙ sym r.1) boarded c.write-number.ensures.meets
