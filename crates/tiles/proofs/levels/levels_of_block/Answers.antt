use Rattle.std.proofs.Common.{◌≡◌, ◌+◌, ◌-◌, ◌*◌, ◌/◌, ◌%◌, ◌^◌, ◌<◌, None, is_some, inr, slice_index_or, slice_index, inl, sym, ap, ◌∙◌, arith}
use Rattle.std.proofs.lemmas.Bool.{cases_lt}
use Rattle.std.proofs.lemmas.List.{get_or-replicate}
use Rattle.extent_tree.specs.Rows.{blank, row, spot_of}
use Rattle.extent_tree.proofs.Rows.{row_alike}
use Rattle.pager_model.proofs.Options.{none_from_is_some}
use Rattle.tiles.specs.TableEntries.{entry_at, entry_size}
use Rattle.tiles.proofs.EntrySizes.{size_large}
use Rattle.tiles.proofs.levels.levels_of_block.Goals as goal
use Rattle.tiles.proofs.levels.levels_of_block.Goals.{After-spot_at}
use Rattle.tiles.proofs.levels.levels_of_block.Given.{Over}

pub returns-then-is_some-clause-levels : goal.returns-then-is_some-clause-levels
returns-then-is_some-clause-levels g c i low =
    let t = c.args.tree.now in
    let said = c.args.said.now in
    let first = c.args.block * 512 in
    let root = c.at-root.ensures.value ∙ ap (λ k. row t k first) c.at_level.ensures in
    let has = ap is_some (row_alike t 3 (first + 8 * i) first (omega arith) (omega arith) ∙ (sym root ∙ sym c.value.ensures))
    ∙ sym c.if-is_some.ensures in
    get_or-replicate 64 i (slice_index said 3) 0 low ∙ ap (slice_index said) (sym (size_large t (first + 8 * i) has))

-- what is at the extent of a part
middle : (g : Over) (c : After-spot_at g)
    → c.spot_at.result ≡ spot_of c.args.tree.now 1 (c.args.block * 512 + 64 * c.loop-i.i)
middle g c =
    let t = c.args.tree.now in
    let first = c.args.block * 512 in
    let other = first + 64 * c.loop-i.i in
    let root = c.at-root.ensures.spot ∙ ap (λ k. spot_of t (3 - k) first) c.at_level.ensures in
    let place : other / 8 ^ 2 % 8 ≡ c.loop-i.i = omega (arith, c.loop-i-test.true) in
    c.spot_at.ensures ∙ (ap (λ k. slice_index_or c.eight-middles.result.now k blank) (sym place)
    ∙ c.eight-middles.ensures.spots 2 first other (omega arith) root (omega (arith, c.loop-i-test.true)))

pub levels_of_middle-eight-requires : goal.levels_of_middle-eight-requires
levels_of_middle-eight-requires g c = (c.args.block * 512 + 64 * c.loop-i.i, middle g (goal.at.levels_of_middle-eight-requires g c).After-spot_at)

pub loop-i-preserved : goal.loop-i-preserved
loop-i-preserved g c =
    let t = c.args.tree.now in
    let said = c.args.said.now in
    let first = c.args.block * 512 in
    let i = c.loop-i.i in
    let root = sym c.at-root.ensures.value ∙ (sym c.value.ensures ∙ none_from_is_some c.value.result (sym c.if-is_some.ensures)) in
    let bare : row t 3 (first + 64 * i) ≡ None = row_alike t 3 (first + 64 * i) first (omega arith) (omega (arith, c.loop-i-test.true))
    ∙ (ap (λ k. row t k first) (sym c.at_level.ensures) ∙ root) in
    record {
      levels = λ k low. elim (cases_lt k (8 * i)) [
        | inl before ↦ c.set_eight.ensures.others k (inl before) ∙ c.loop-i.invariant.levels k before
        | inr on ↦
            let j = k - 8 * i in
            let here : k ≡ 8 * i + j = omega arith in
            let page : first + 64 * i + 8 * j ≡ first + 8 * k = omega (arith, here) in
            let eighth : j < 8 = omega arith in
            let part = middle g (goal.at.loop-i-preserved g c).After-spot_at in
            ap (slice_index c.set_eight.new.levels) here
            ∙ (c.set_eight.ensures.eight j eighth
            ∙ (c.levels_of_middle-eight.ensures.levels (first + 64 * i) j eighth (omega arith) part bare
            ∙ ap (λ p. slice_index said (entry_size (entry_at t p))) page))
      ];
      cost = omega (arith, c.loop-i.invariant.cost, c.levels_of_middle-eight.ensures.cost);
    }
