use Rattle.std.proofs.Common.{◌≡◌, take, map, length}
use Rattle.journal_core.specs.Places.{placed_all}
use Rattle.journal_core.proofs.gather.scatter_all.Given as goal

abbrev pub invariant-loop-log : goal.invariant-loop-log
invariant-loop-log l = (l.history ≡ placed_all l.initial.history (map (λ v. v.items) (take l.log-index l.logs)))
    × (length l.history ≡ length l.initial.history)
