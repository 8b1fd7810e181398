use Rattle.std.proofs.Common.{ℕ, ◌<◌, get_or}
use Rattle.pager_model.specs.Order.{Progress}
use Rattle.history_check.specs.Shown.{IsAtRest}
use Rattle.history_check.proofs.checker.Checker.are_idle.Given as goal

abbrev pub invariant-loop-processor : goal.invariant-loop-processor
invariant-loop-processor l = (c : ℕ) (d : Progress) → c < l.processor → IsAtRest 0 (get_or l.self.progress.items c d)
