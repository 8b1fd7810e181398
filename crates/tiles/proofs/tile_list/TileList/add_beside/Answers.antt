use Rattle.std.proofs.Common.{◌≡◌, ℕ, ◌+◌, ◌*◌, ◌/◌, ◌%◌, ◌^◌, ◌<◌, [], ◌∷◌, ◌++◌, suc, length, sym, ap, ◌∙◌, add-one, arith}
use Rattle.std.proofs.lemmas.List.{append-nil, length-append}
use Rattle.pager_model.proofs.ExtentLemmas.{eight_pos, eight_small}
use Rattle.tiles.specs.Changes.{beside, own_part, part_from, part_start}
use Rattle.tiles.proofs.Pieces.{beside-none, fewer, part_inside, more-own, more-other}
use Rattle.tiles.proofs.tile_list.TileList.add_beside.Goals as goal
use Rattle.tiles.proofs.tile_list.TileList.add_beside.Goals.{After-pages-wide, then-part-own, else-part-own}

-- the lengths, by the level
narrow : (c : After-pages-wide) → c.pages-pages.result ≡ 8 ^ c.args.level
narrow c = c.pages-pages.ensures ∙ ap (λ k. 8 ^ k) c.at_level-size.ensures

wide : (c : After-pages-wide) → c.pages-wide.result ≡ 8 ^ suc c.args.level
wide c = c.pages-wide.ensures ∙ ap (λ k. 8 ^ k) (c.at_level.ensures ∙ add-one c.args.level)

own : (c : After-pages-wide) → c.args.page / c.pages-pages.result % 8 ≡ own_part c.args.level c.args.page
own c = ap (λ n. c.args.page / n % 8) (narrow c)

starts : (c : After-pages-wide) (part : _)
    → c.args.page / c.pages-wide.result * c.pages-wide.result + part * c.pages-pages.result ≡ part_start c.args.level c.args.page part
starts c part = ap (λ n. c.args.page / n * n + part * c.pages-pages.result) (wide c)
    ∙ ap (λ n. c.args.page / 8 ^ suc c.args.level * 8 ^ suc c.args.level + part * n) (narrow c)

pub nonzero_div-first : goal.nonzero_div-first
nonzero_div-first c = omega (arith, wide c, eight_pos (suc c.args.level))

pub nonzero_div-own : goal.nonzero_div-own
nonzero_div-own c = omega (arith, narrow c, eight_pos c.args.level)

pub overflow_mul-first : goal.overflow_mul-first
overflow_mul-first c = omega (arith, wide c, eight_pos (suc c.args.level))

part_below : (c : After-pages-wide) (part : ℕ) → part < 8
    → c.args.page / c.pages-wide.result * c.pages-wide.result + part * c.pages-pages.result < 2 ^ 32
part_below c part few =
    let size = c.args.whole.now.extent.size in
    let inside = part_inside size c.args.level c.args.page part c.requires.level c.requires.round.low few in
    omega (arith, starts c part, inside.below, eight_small size c.requires.round.low, eight_pos size)

pub overflow_mul-part : goal.overflow_mul-part
overflow_mul-part c =
    let below = part_below (goal.at.overflow_mul-part c).After-pages-wide c.loop-part.part c.loop-part-test.true in
    omega (arith, below)

pub overflow_add-first : goal.overflow_add-first
overflow_add-first c =
    let below = part_below (goal.at.overflow_add-first c).After-pages-wide c.loop-part.part c.loop-part-test.true in
    omega (arith, below)

pub loop-part-init : goal.loop-part-init
loop-part-init c = sym (ap (λ xs. c.args.self.now ++ xs) (beside-none c.args.level c.args.page c.args.whole.now)
    ∙ append-nil c.args.self.now)

pub part_from-requires-clause-from : goal.part_from-requires-clause-from
part_from-requires-clause-from c =
    let at = (goal.at.part_from-requires-clause-from c).After-pages-wide in
    let size = c.args.whole.now.extent.size in
    omega (
      arith,
      starts at c.loop-part.part,
      part_inside size c.args.level c.args.page c.loop-part.part c.requires.level c.requires.round.low c.loop-part-test.true,
      c.requires.round.starts,
    )

pub part_from-requires-clause-fits : goal.part_from-requires-clause-fits
part_from-requires-clause-fits c =
    let at = (goal.at.part_from-requires-clause-fits c).After-pages-wide in
    let size = c.args.whole.now.extent.size in
    omega (
      arith,
      starts at c.loop-part.part,
      part_inside size c.args.level c.args.page c.loop-part.part c.requires.level c.requires.round.low c.loop-part-test.true,
      c.requires.round.starts,
      c.requires.round.fits,
    )

pub push-requires : goal.push-requires
push-requires c =
    let at = (goal.at.push-requires c).After-pages-wide in
    let few = fewer c.args.level c.args.page c.args.whole.now c.loop-part.part c.loop-part-test.true
    (λ e. c.if-part-own.true (e ∙ sym (own at))) in
    let long = ap length c.loop-part.invariant ∙ length-append c.args.self.now
    (beside c.args.level c.args.page c.args.whole.now c.loop-part.part) in
    omega (arith, long, few, c.requires.room)

pub loop-part-preserved : goal.loop-part-preserved
loop-part-preserved c =
    let at = (goal.at.loop-part-preserved c).After-pages-wide in
    elim c.if-part-own.branch [
      | then-part-own w ↦
          let start = c.args.page / c.pages-wide.result * c.pages-wide.result + c.loop-part.part * c.pages-pages.result in
          w.self-is ∙ w.push.ensures
          ∙ ap (λ t. c.loop-part.self ++ t ∷ []) (w.part_from.ensures
          ∙ ap (λ k. part_from k start c.args.whole.now) c.at_level-size.ensures
          ∙ ap (λ n. part_from c.args.level n c.args.whole.now) (starts at c.loop-part.part))
          ∙ more-other c.args.self.now c.loop-part.self c.args.level c.args.page c.args.whole.now c.loop-part.part
          (λ e. w.if-part-own.true (e ∙ sym (own at))) c.loop-part.invariant
      | else-part-own w ↦ w.self-is ∙ more-own c.args.self.now c.loop-part.self c.args.level c.args.page c.args.whole.now c.loop-part.part
          (w.if-part-own.false ∙ own at) c.loop-part.invariant
    ]

pub returns : goal.returns
returns c = c.loop-part.invariant ∙ ap
    (λ n. c.args.self.now ++ beside c.args.level c.args.page c.args.whole.now n) {x = c.loop-part.part} {y = 8} (omega arith)
