use Rattle.std.proofs.Common.{sym, subst, ◌∙◌}
use Rattle.journal_core.specs.declared.view.View.{View}
use Rattle.journal_core.specs.Views.{MayGrow}
use Rattle.journal_core.proofs.JoinedViews.{board_one, board_two, two_tells, two_may}
use Rattle.journal_core.proofs.journal.commit_two.Goals as goal

pub write-number-requires-clause-entry : goal.write-number-requires-clause-entry
write-number-requires-clause-entry c =
    let r = c.requires in
    let j = r.journal in
    let pass = c.into_parts-log.ensures.pass in
    let boarded = board_two _ _ _ c.args.pass c.args.space c.args.frames
    (board_one _ _ _ c.args.pass c.args.space c.into_parts-log.ensures.seat.1 c.into_seat.ensures.seat.1 c.board.ensures.1)
    c.into_seat-2.ensures.seat.1 c.board-2.ensures.1 in
    subst (λ (v : View). MayGrow v c.args.entry) (sym boarded)
    (two_may c.args.space c.args.frames c.args.pass c.args.entry (j.0 ∙ sym j.2)
    (j.1 ∙ sym j.2) r.parts r.authors r.processor r.space r.frames r.order r.room pass.most pass.processor)

pub returns-clause-place : goal.returns-clause-place
returns-clause-place c =
    let r = c.requires.journal in
    let boarded = board_two _ _ _ c.args.pass c.args.space c.args.frames
    (board_one _ _ _ c.args.pass c.args.space c.into_parts-log.ensures.seat.1 c.into_seat.ensures.seat.1 c.board.ensures.1)
    c.into_seat-2.ensures.seat.1 c.board-2.ensures.1 in
    two_tells c.args.space c.args.frames c.args.pass _ _ (r.0 ∙ sym r.2)
    (r.1 ∙ sym r.2) c.requires.authors.0 boarded c.write-number.ensures.meets
