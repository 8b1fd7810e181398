use Rattle.std.proofs.Common.{sym}
use Rattle.frame_pool.specs.LayoutState.{layout_in}
use Rattle.frame_pool.proofs.PlacingResult.{record_at-covered, HasPage-covered}
use Rattle.frame_pool.proofs.layout.Layout.frame_of.Goals as goal

pub frame_for-frame-requires-clause-page : goal.frame_for-frame-requires-clause-page
frame_for-frame-requires-clause-page c =
    HasPage-covered (layout_in c.self.inside) c.args.space c.args.page c.in_ok-reservation.reservation c.self.invariant.0
    (sym c.in_ok-reservation.ensures)

pub frame_for-frame-requires-clause-frames : goal.frame_for-frame-requires-clause-frames
frame_for-frame-requires-clause-frames c =
    let r = c.in_ok-reservation.reservation in
    let laid = c.self.invariant.0 in
    (laid.placed r.frame r (record_at-covered (layout_in c.self.inside) c.args.space c.args.page r laid
    (sym c.in_ok-reservation.ensures))).aligned
