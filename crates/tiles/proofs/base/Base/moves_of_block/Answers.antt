use Rattle.std.proofs.Common.{◌+◌, ◌*◌, ◌≡◌, ℕ, refl, ap, ap₂, subst, sym, slice_index, ◌∙◌, arith}
use Rattle.pager_model.proofs.CountLemmas.{weight}
use Rattle.tiles.specs.Blocks.{is_grown_at}
use Rattle.tiles.specs.Resident.{mapping_at}
use Rattle.tiles.proofs.Blocks.{Adds, CountsTo, adds_none, counts_none, counts_more, counts_all, one_most}
use Rattle.tiles.proofs.base.Base.moves_of_block.Goals as goal
use Rattle.tiles.proofs.base.Base.moves_of_block.Goals.{then-before-i, else-before-i}
use Rattle.tiles.proofs.base.Base.moves_of_block.Given.{Over}

pub loop-i-init : goal.loop-i-init
loop-i-init g c = record {
  few_promotions = omega arith;
  few_demotions = omega arith;
  in_space = omega arith;
  counts = λ old sizes. counts_none c.args.sizes c.args.block old (mapping_at c.args.self.now) _ refl refl;
}

-- what is counted at a place is added, where the levels there differ
adds : (g : Over) (c : goal.Joined-before-i g)
    → Adds (c.args.block * 512 + 8 * c.loop-i.i) (slice_index c.args.before.now c.loop-i.i) (slice_index c.sizes_of_block-after.result c.loop-i.i)
    c.loop-i.moves c.if-before-i.moves
adds g c =
    let page = c.args.block * 512 + 8 * c.loop-i.i in
    let had = slice_index c.args.before.now c.loop-i.i in
    let has = slice_index c.sizes_of_block-after.result c.loop-i.i in
    elim c.if-before-i.branch [
      | then-before-i w ↦ subst (Adds page had has c.loop-i.moves) (sym w.moves-is) (record {
        promotions = w.and-moves.ensures.promotions ∙ ap (λ n. c.loop-i.moves.promotions + n) w.at.ensures.promotions;
        demotions = w.and-moves.ensures.demotions ∙ ap (λ n. c.loop-i.moves.demotions + n) w.at.ensures.demotions;
        in_space = w.and-moves.ensures.in_space;
      })
      | else-before-i w ↦ subst (Adds page had has c.loop-i.moves) (sym w.moves-is)
          (adds_none page had has c.loop-i.moves w.if-before-i.false c.loop-i.invariant.in_space)
    ]

pub loop-i-preserved : goal.loop-i-preserved
loop-i-preserved g c =
    let q = c.args.block * 512 + 8 * c.loop-i.i in
    let before = slice_index c.args.before.now c.loop-i.i in
    let after = slice_index c.sizes_of_block-after.result c.loop-i.i in
    let added = adds g c in
    record {
      few_promotions = omega (arith, c.loop-i.invariant.few_promotions, added.promotions, one_most (is_grown_at q before after));
      few_demotions = omega (arith, c.loop-i.invariant.few_demotions, added.demotions, one_most (is_grown_at q after before));
      in_space = added.in_space;
      counts = λ old sizes.
          let had = sizes c.loop-i.i c.loop-i-test.true in
          let has = c.sizes_of_block-after.ensures.sizes c.loop-i.i c.loop-i-test.true in
          counts_more c.args.sizes c.args.block c.loop-i.i old (mapping_at c.args.self.now) c.loop-i.moves c.if-before-i.moves
          (c.loop-i.invariant.counts old sizes)
          (added.promotions ∙ ap (λ n. c.loop-i.moves.promotions + n) (ap₂ (λ a b. weight (is_grown_at q a b)) had has))
          (added.demotions ∙ ap (λ n. c.loop-i.moves.demotions + n) (ap₂ (λ a b. weight (is_grown_at q a b)) has had));
    }

pub returns-clause-moves : goal.returns-clause-moves
returns-clause-moves g c old sizes outside =
    let past = c.loop-i-test.false in
    let ended = c.loop-i.auto.i-end in
    let all : c.loop-i.i ≡ 64 = omega arith in
    let counts = subst (λ (i : ℕ). CountsTo c.args.sizes c.args.block i old (mapping_at c.args.self.now) c.loop-i.moves) all
    (c.loop-i.invariant.counts old sizes) in
    counts_all c.args.sizes c.args.block old (mapping_at c.args.self.now) _ c.requires.block outside
    (record { promotions = counts.promotions; demotions = counts.demotions }) refl
