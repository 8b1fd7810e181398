use Rattle.std.proofs.Common.{◌≡◌, take, [], ◌∷◌}
use Rattle.pager_core.specs.Sums.{tiles_in}
use Rattle.pager_core.proofs.run_parts.tiles_of.Given as goal

abbrev pub invariant-loop-space : goal.invariant-loop-space
invariant-loop-space g l =
    l.tiles ≡ tiles_in (take l.space-index l.spaces) 0 ∷ tiles_in (take l.space-index l.spaces) 1 ∷ tiles_in
    (take l.space-index l.spaces) 2 ∷ tiles_in (take l.space-index l.spaces) 3 ∷ []
