use Rattle.std.proofs.Common.{◌≡◌, length}
use Rattle.space_tests.proofs.tests.images.touch_all.Given as goal

abbrev pub invariant-loop-page : goal.invariant-loop-page
invariant-loop-page l = length l.images ≡ length l.fn.images
