use Rattle.std.proofs.Common.{ℕ, ◌<◌, ◌≢◌, Some}
use Rattle.tiles.specs.Resident.{frame_of_page}
use Rattle.space_tests.proofs.tests.tiling.is_free.Given as goal

abbrev pub invariant-loop-page : goal.invariant-loop-page
invariant-loop-page l = (p : ℕ) → p < l.page → frame_of_page l.base p ≢ Some l.frame
