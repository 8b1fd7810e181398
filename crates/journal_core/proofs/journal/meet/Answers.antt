use Rattle.std.proofs.Common.{sym, ◌∙◌}
use Rattle.journal_core.proofs.JoinedViews.{board_one, one_tells}
use Rattle.journal_core.proofs.journal.meet.Goals as goal

pub returns-clause-one_history : goal.returns-clause-one_history
returns-clause-one_history c =
    let r = c.requires.journal in
    let boarded = board_one _ _ _ c.args.pass c.args.author c.into_parts-log.ensures.seat.1 c.into_seat.ensures.seat.1 c.board.ensures.1 in
    let t = one_tells c.args.author c.args.pass _ _ (r.0 ∙ sym r.1) boarded c.look.ensures.meets in
    (t.0, t.1)
