use Rattle.std.proofs.Common.{arith}
use Rattle.tiles.proofs.PageChanges.{frame_fits}
use Rattle.tiles.proofs.changes.Changes.frame_before.Goals as goal

pub overflow_add-result : goal.overflow_add-result
overflow_add-result c = omega (arith, frame_fits c.self.inside.page c.in_ok-tile.tile (rw c.in_ok-tile.was at c.self.invariant.before))
