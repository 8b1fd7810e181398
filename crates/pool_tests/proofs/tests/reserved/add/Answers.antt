use Rattle.std.proofs.Common.{arith, rules}
use Rattle.pager_model.proofs.RecordFrames.{has_frame_bounds}
use Rattle.pool_tests.proofs.tests.reserved.add.Goals as goal

pub add-requires-clause-apart : goal.add-requires-clause-apart
add-requires-clause-apart g c = λ f id has. let bounds = has_frame_bounds f c.args.reservation has in
    c.is_free.ensures (search rules) f id bounds.0 (omega (arith, bounds.1, c.pages-pages.ensures))
