use Rattle.std.proofs.Common.{◌≡◌, ◌<◌, ◌≤◌, ℕ, false}
use Rattle.pager_model.specs.Agreement.{has_frame}
use Rattle.reservations.specs.Kept.{reservation_at}
use Rattle.pool_tests.proofs.tests.reserved.is_free.Given as goal

abbrev pub invariant-loop-frame : goal.invariant-loop-frame
invariant-loop-frame l = (f id : ℕ) → l.first ≤ f → f < l.frame → has_frame f (reservation_at l.kept id) ≡ false
