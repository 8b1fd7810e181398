use Rattle.std.proofs.Common.{◌≡◌, ◌+◌, ◌-◌, ◌/◌, ◌<◌, ◌≤◌, refl, ap, arith}
use Rattle.std.proofs.lemmas.Bool.{ne_eqb}
use Rattle.tiles.specs.Looks.{looks_in_blocks}
use Rattle.tiles.specs.Resident.{mapping_at}
use Rattle.tiles.proofs.Blocks.{blocks_none, blocks_more, blocks_bare, blocks_all, blocks_apart, block_untouched}
use Rattle.tiles.proofs.Looks.{block_alike, looks_used, looks-more, looks-none, looks-on}
use Rattle.tiles.proofs.MoveCounts.{LieApart, moves_same, moves_more, moves_fit}
use Rattle.tiles.proofs.base.Base.after_rights.Goals as goal
use Rattle.tiles.proofs.base.Base.after_rights.Goals.{After-after_rights_in_block}
use Rattle.tiles.proofs.base.Base.after_rights.Given.{Over}
use Rattle.pager_model.specs.Bounds.{space_pages}

pub loop-block-init : goal.loop-block-init
loop-block-init g c =
    let pages = mapping_at c.args.self.now in
    let from = c.args.first / 512 in
    let block = c.next_block-block.result in
    let next = c.next_block-block.ensures in
    let none = looks-none pages from in
    let looks = looks-on pages from from block (omega arith) next.from_on in
    record {
      on = next.from_on;
      within = next.within;
      protects = blocks_bare from block c.args.first c.args.length c.args.rights c.args.self.now c.args.self.now next.from_on next.bare
          (blocks_none c.args.first c.args.length c.args.rights c.args.self.now);
      moves = moves_same c.args.sizes pages pages _ (λ p. refl) refl refl (omega arith);
      used = next.used;
      cost = λ before. omega (arith, none, looks, next.cost_used before);
      cost_all = λ end. omega (arith, none, looks, next.cost_none end, ap (λ b. looks_in_blocks pages from (b - from)) end);
    }

-- the change in a block lies apart from those in the blocks before
apart : (g : Over) (c : After-after_rights_in_block g)
    → LieApart (mapping_at c.args.self.now) (mapping_at c.loop-block.self) (mapping_at c.after_rights_in_block.new.self)
apart g c =
    blocks_apart c.loop-block.block c.args.first c.args.length c.args.rights c.args.self.now c.loop-block.self
    c.after_rights_in_block.new.self c.loop-block.invariant.protects c.after_rights_in_block.ensures.protects

-- so there are no more moves than pages
fit : (g : Over) (c : After-after_rights_in_block g)
    → (c.loop-block.moves.promotions + c.after_rights_in_block.result.promotions ≤ space_pages)
    × (c.loop-block.moves.demotions + c.after_rights_in_block.result.demotions ≤ space_pages)
fit g c =
    moves_fit c.args.sizes (mapping_at c.args.self.now) (mapping_at c.loop-block.self) (mapping_at c.after_rights_in_block.new.self)
    c.loop-block.moves c.after_rights_in_block.result (apart g c) c.loop-block.invariant.moves c.after_rights_in_block.ensures.moves

pub loop-block-preserved : goal.loop-block-preserved
loop-block-preserved g c =
    let block = c.loop-block.block in
    let so_far = c.loop-block.invariant in
    let pages = mapping_at c.args.self.now in
    let was = mapping_at c.loop-block.self in
    let from = c.args.first / 512 in
    let past = c.div_ceil-past.result in
    let next = c.next_block-block-in-loop-block.ensures in
    let to = c.next_block-block-in-loop-block.result in
    let known : block < 2048 = omega (arith, c.loop-block-test.true, c.div_ceil-past.ensures, c.requires) in
    let here = block_alike pages was block known
    (block_untouched block c.args.first c.args.length c.args.rights c.args.self.now c.loop-block.self so_far.protects) in
    let looks = looks_used was block (so_far.used c.loop-block-test.true) in
    let more = looks-more pages from block so_far.on in
    let on = looks-on pages from (block + 1) to (omega (arith, so_far.on)) next.from_on in
    record {
      on = omega (arith, so_far.on, next.from_on);
      within = next.within;
      protects =
          blocks_bare (block + 1) to c.args.first c.args.length c.args.rights c.args.self.now c.after_rights_in_block.new.self next.from_on next.bare
          (blocks_more block c.args.first c.args.length c.args.rights c.args.self.now c.loop-block.self c.after_rights_in_block.new.self
          so_far.protects c.after_rights_in_block.ensures.protects);
      moves =
          moves_more c.args.sizes pages was (mapping_at c.after_rights_in_block.new.self)
          c.loop-block.moves c.after_rights_in_block.result c.and-moves.result
          (apart g (goal.at.loop-block-preserved g c).After-after_rights_in_block) so_far.moves
          c.after_rights_in_block.ensures.moves c.and-moves.ensures.promotions c.and-moves.ensures.demotions c.and-moves.ensures.in_space
          c.and-moves.ensures.touched;
      used = next.used;
      cost = λ before. omega (
        arith,
        so_far.cost c.loop-block-test.true,
        c.after_rights_in_block.ensures.cost,
        here,
        looks,
        more,
        on,
        next.cost_used before,
      );
      cost_all = λ end. omega (
        arith,
        so_far.cost c.loop-block-test.true,
        c.after_rights_in_block.ensures.cost,
        here,
        looks,
        more,
        on,
        next.cost_none end,
        ap (λ b. looks_in_blocks pages from (b - from)) end,
      );
    }

pub returns-clause-protects : goal.returns-clause-protects
returns-clause-protects g c =
    blocks_all c.loop-block.block c.args.first c.args.length c.args.rights c.args.self.now c.loop-block.self
    (omega (arith, c.loop-block-test.false, c.div_ceil-past.ensures)) c.loop-block.invariant.protects

pub returns-clause-moves : goal.returns-clause-moves
returns-clause-moves g c = c.loop-block.invariant.moves

pub returns-clause-cost : goal.returns-clause-cost
returns-clause-cost g c =
    let pages = mapping_at c.args.self.now in
    let from = c.args.first / 512 in
    let ended : c.loop-block.block ≡ c.div_ceil-past.result = omega (arith, c.loop-block-test.false, c.loop-block.invariant.within) in
    let last : c.div_ceil-past.result ≡ (c.args.first + c.args.length + 511) / 512 = omega (arith, c.div_ceil-past.ensures) in
    rw (ne_eqb c.args.length 1 c.if-length-eq1.false)
    (omega (arith, c.loop-block.invariant.cost_all ended, ap (λ past. looks_in_blocks pages from (past - from)) last))

pub and-moves-requires-clause-promotions : goal.and-moves-requires-clause-promotions
and-moves-requires-clause-promotions g c = (fit g c).0

pub and-moves-requires-clause-demotions : goal.and-moves-requires-clause-demotions
and-moves-requires-clause-demotions g c = (fit g c).1
