use Rattle.std.proofs.Common.{arith}
use Rattle.pager_model.proofs.ExtentLemmas.{aligned_end}
use Rattle.pager_model.proofs.RecordFrames.{has_frame_bounds}
use Rattle.frame_pool.proofs.records.page_at.Goals as goal

pub overflow_add-result : goal.overflow_add-result
overflow_add-result c =
    let r = c.args.reservation.now in
    let has = has_frame_bounds c.args.frame r c.requires.has in
    omega (arith, aligned_end r.size r.first c.requires.pages.0 c.requires.pages.1 (omega arith), has.0, has.1)
