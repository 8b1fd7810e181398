use Rattle.std.proofs.Common.{◌≡◌, not, filter, length}
use Rattle.pager_model.specs.Regions.{in_range}
use Rattle.store_core.proofs.memory.drop_copies.Given as goal

-- what is to be left is as at first
abbrev pub invariant-loop-page : goal.invariant-loop-page
invariant-loop-page l = filter (λ copy. not (in_range l.first l.length copy.0)) l.copies.entries ≡ filter
    (λ copy. not (in_range l.first l.length copy.0)) l.fn.copies.entries

abbrev pub decreases-loop-page : goal.decreases-loop-page
decreases-loop-page l = length l.copies.entries
