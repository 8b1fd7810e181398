use Rattle.std.proofs.Common.{◌≡◌, ◌≤◌, count_by, take}
use Rattle.pager_model.specs.declared.entry.Numbered.{Numbered}
use Rattle.pager_model.specs.Counts.{is_hit_in, is_miss_in}
use Rattle.run_history.proofs.accesses_in.Given as goal

abbrev pub invariant-loop-numbered : goal.invariant-loop-numbered
invariant-loop-numbered l =
    (l.accesses.hits ≡ count_by (λ (n : Numbered). is_hit_in n.entry.what) (take l.numbered-index l.entries))
    × (l.accesses.hits ≤ l.numbered-index)
    × (l.accesses.misses ≡ count_by (λ (n : Numbered). is_miss_in n.entry.what) (take l.numbered-index l.entries))
    × (l.accesses.misses ≤ l.numbered-index)
