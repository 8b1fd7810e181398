use Rattle.std.proofs.Common.{◌*◌, ◌-◌, refl, arith}
use Rattle.tiles.specs.Resident.{mapping_at}
use Rattle.tiles.proofs.Blocks.{outside_part}
use Rattle.tiles.proofs.Looks.{resident_part}
use Rattle.tiles.proofs.MoveCounts.{moves_same}
use Rattle.tiles.proofs.base.Base.after_rights_in_block.Goals as goal

pub returns-then-not-any_has_other_rights-clause-moves : goal.returns-then-not-any_has_other_rights-clause-moves
returns-then-not-any_has_other_rights-clause-moves g c = moves_same c.args.sizes (mapping_at c.args.self.now) (mapping_at c.args.self.now) _
    (λ p. refl) refl refl (omega arith)

pub returns-then-not-any_has_other_rights-clause-cost : goal.returns-then-not-any_has_other_rights-clause-cost
returns-then-not-any_has_other_rights-clause-cost g c =
    omega (arith, c.any_has_other_rights.ensures.cost, c.max-from.ensures, c.min-end.ensures)

pub returns-clause-moves : goal.returns-clause-moves
returns-clause-moves g c =
    let outside = outside_part c.args.block c.max-from.result c.min-end.result c.args.rights c.args.self.now c.after_rights_of_all.new.self
    (omega (arith, c.max-from.ensures)) (omega (arith, c.min-end.ensures)) c.after_rights_of_all.ensures.protects in
    c.moves_of_block.ensures.moves (mapping_at c.args.self.now) c.sizes_of_block-before.ensures.sizes outside

pub returns-clause-cost : goal.returns-clause-cost
returns-clause-cost g c =
    let from = c.max-from.result in
    let end = c.min-end.result in
    omega (
      arith,
      c.any_has_other_rights.ensures.cost,
      c.sizes_of_block-before.ensures.cost,
      c.after_rights_of_all.ensures.cost,
      c.moves_of_block.ensures.cost,
      c.max-from.ensures,
      c.min-end.ensures,
      c.requires.from,
      c.requires.to,
      resident_part (mapping_at c.args.self.now) (c.args.block * 512) 512 from (end - from) (omega (arith, c.max-from.ensures))
          (omega (arith, c.max-from.ensures, c.min-end.ensures, c.requires.from, c.requires.to)) (omega (arith, c.requires.block)),
    )
