use Rattle.std.proofs.Common.{arith}
use Rattle.pager_model.proofs.ExtentLemmas.{aligned_end}
use Rattle.reservations.proofs.frame_for.Goals as goal

pub overflow_add-result : goal.overflow_add-result
overflow_add-result c =
    let r = c.args.reservation.now in
    omega (arith, aligned_end r.size r.frame c.requires.frames.0 c.requires.frames.1 (omega arith), c.requires.page.0, c.requires.page.1)
