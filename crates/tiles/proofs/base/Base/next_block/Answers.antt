use Rattle.std.proofs.Common.{◌*◌, ◌<◌, arith, subst}
use Rattle.tiles.specs.Looks.{resident_in}
use Rattle.tiles.specs.Resident.{NoneResident, mapping_at}
use Rattle.tiles.proofs.EntryTiles.{none_says}
use Rattle.tiles.proofs.Looks.{block_resident}
use Rattle.tiles.proofs.base.Base.next_block.Goals as goal

pub returns-clause-bare : goal.returns-clause-bare
returns-clause-bare g c =
    subst (λ r. NoneResident (mapping_at r) (c.args.from * 512) (c.used_block.result * 512)) c.self.view_is
    (λ page on before. none_says c.self.inside.map page (c.used_block.ensures.bare page on before))

pub returns-clause-used : goal.returns-clause-used
returns-clause-used g c before =
    let used = c.used_block.ensures.used before in
    subst (λ r. 0 < resident_in (mapping_at r) (c.used_block.result * 512) 512) c.self.view_is
    (block_resident c.self.inside.map c.used_block.result used.0 (omega (arith, c.requires.end)) used.1 used.2)
