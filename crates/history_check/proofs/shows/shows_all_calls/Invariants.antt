use Rattle.std.proofs.Common.{ℕ, ◌<◌}
use Rattle.pager_model.specs.Legal.{entries_in}
use Rattle.history_check.specs.Shown.{AnswersShown}
use Rattle.history_check.proofs.shows.shows_all_calls.Given as goal

abbrev pub invariant-loop-processor : goal.invariant-loop-processor
invariant-loop-processor l = (c : ℕ) → c < l.processor → AnswersShown c l.lines (entries_in l.history)
