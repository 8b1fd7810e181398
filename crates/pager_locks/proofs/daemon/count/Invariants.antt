use Rattle.std.proofs.Common.{◌≡◌, ◌≤◌, count_by, take}
use Rattle.pager_model.specs.declared.entry.Numbered.{Numbered}
use Rattle.pager_locks.specs.Counts.{is_written, is_clean, is_fault, is_unclaim}
use Rattle.pager_locks.proofs.daemon.count.Given as goal

abbrev pub invariant-loop-numbered : goal.invariant-loop-numbered
invariant-loop-numbered l =
    (l.written ≡ count_by (λ (n : Numbered). is_written n.entry.what) (take l.numbered-index l.entries)) × (l.written ≤ l.numbered-index)
    × (l.clean ≡ count_by (λ (n : Numbered). is_clean n.entry.what) (take l.numbered-index l.entries)) × (l.clean ≤ l.numbered-index)
    × (l.faults ≡ count_by (λ (n : Numbered). is_fault n.entry.what) (take l.numbered-index l.entries)) × (l.faults ≤ l.numbered-index)
    × (l.unclaims ≡ count_by (λ (n : Numbered). is_unclaim n.entry.what) (take l.numbered-index l.entries))
    × (l.unclaims ≤ l.numbered-index)
