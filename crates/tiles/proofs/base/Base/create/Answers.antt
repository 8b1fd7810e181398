use Rattle.std.proofs.Common.{arith}
use Rattle.tiles.proofs.EntryTiles.{none_says}
use Rattle.tiles.proofs.KeptPages.{fresh_kept}
use Rattle.tiles.proofs.base.Base.create.Goals as goal

pub invariant_of-result : goal.invariant_of-result
invariant_of-result c = fresh_kept c.in_ok-map.map c.in_ok-map.ensures.none (omega (arith, c.in_ok-map.ensures.frames, c.requires))

pub returns-clause-none : goal.returns-clause-none
returns-clause-none c p = none_says c.in_ok-map.map p (c.in_ok-map.ensures.none p)
