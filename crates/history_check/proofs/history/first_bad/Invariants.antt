use Rattle.std.proofs.Common.{[], take}
use Rattle.pager_model.specs.Legal.{entries_in}
use Rattle.pager_model.specs.Settings.{Given}
use Rattle.history_check.specs.Standing.{StandsAfter}
use Rattle.history_check.proofs.history.first_bad.Given as goal

abbrev pub invariant-loop-place : goal.invariant-loop-place
invariant-loop-place l = (g : Given) → StandsAfter g [] l.fn.checker → StandsAfter g (entries_in (take l.place l.history)) l.checker
