use Rattle.std.proofs.Common.{sym, ◌∙◌}
use Rattle.journal_core.proofs.JoinedViews.{board_one, board_two, two_tells}
use Rattle.journal_core.proofs.journal.meet_two.Goals as goal

pub returns-clause-one_history : goal.returns-clause-one_history
returns-clause-one_history c =
    let r = c.requires.journal in
    let boarded = board_two _ _ _ c.args.pass c.args.space c.args.frames
    (board_one _ _ _ c.args.pass c.args.space c.into_parts-log.ensures.seat.1 c.into_seat.ensures.seat.1 c.board.ensures.1)
    c.into_seat-2.ensures.seat.1 c.board-2.ensures.1 in
    let t = two_tells c.args.space c.args.frames c.args.pass _ _ (r.0 ∙ sym r.2)
    (r.1 ∙ sym r.2) c.requires.authors boarded c.look.ensures.meets in
    (t.0, t.1)
