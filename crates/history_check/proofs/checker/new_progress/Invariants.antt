use Rattle.std.proofs.Common.{◌≡◌, map, take}
use Rattle.pager_model.specs.Order.{at_rest}
use Rattle.history_check.proofs.checker.new_progress.Given as goal

abbrev pub invariant-loop-mark : goal.invariant-loop-mark
invariant-loop-mark l = l.all.items ≡ map (λ mark. at_rest mark 0) (take l.mark-index l.marks)
