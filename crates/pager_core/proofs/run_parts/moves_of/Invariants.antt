use Rattle.std.proofs.Common.{◌≡◌, take}
use Rattle.pager_core.specs.Sums.{promotions_in, demotions_in}
use Rattle.pager_core.proofs.run_parts.moves_of.Given as goal

abbrev pub invariant-loop-space : goal.invariant-loop-space
invariant-loop-space g l = (l.promotions ≡ promotions_in (take l.space-index l.spaces))
    × (l.demotions ≡ demotions_in (take l.space-index l.spaces))
