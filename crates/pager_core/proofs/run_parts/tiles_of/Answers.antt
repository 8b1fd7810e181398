use Rattle.std.proofs.Common.{◌≡◌, ℕ, ◌+◌, ◌∷◌, [], take, sym, ap, subst, ◌∙◌, slice_index_or}
use Rattle.pager_model.specs.Tiles.{tile_count_in}
use Rattle.space_core.specs.Standing.{Kept}
use Rattle.space_core.specs.Tables.{mapping_in}
use Rattle.pager_core.specs.Sums.{AreFewer, sum_at, tiles_in}
use Rattle.pager_core.proofs.RunCounts.{own_fewer, some_fewer, sum-next}
use Rattle.pager_core.proofs.run_parts.tiles_of.Goals as goal

pub added-tiles-requires-clause-few : goal.added-tiles-requires-clause-few
added-tiles-requires-clause-few g c = subst (λ l. AreFewer l 1073741824) (sym c.loop-space.invariant)
    (some_fewer c.args.spaces.now c.loop-space.space-index c.requires.few)

pub added-tiles-requires-clause-few_more : goal.added-tiles-requires-clause-few_more
added-tiles-requires-clause-few_more g c = subst (λ l. AreFewer l 1073741824) (sym c.tile_counts.ensures)
    (own_fewer c.space-item.result.table.sizes (mapping_in c.space-item.result.table))

pub loop-space-preserved : goal.loop-space-preserved
loop-space-preserved g c =
    let sum : (size : ℕ) → slice_index_or c.loop-space.tiles size 0 ≡ tiles_in (take c.loop-space.space-index c.args.spaces.now) size
    → slice_index_or c.tile_counts.result size 0 ≡ tile_count_in c.space-item.result.table.sizes (mapping_in c.space-item.result.table) size
    → sum_at c.loop-space.tiles c.tile_counts.result size ≡ tiles_in (take (c.loop-space.space-index + 1) c.args.spaces.now) size =
    λ size. sum-next (λ (k : Kept). tile_count_in k.table.sizes (mapping_in k.table) size) c.args.spaces.now c.loop-space.space-index
    c.space-item.result _ _ c.loop-space-test.true c.space-item.is in
    let first = sum 0 (ap (λ l. slice_index_or l 0 0) c.loop-space.invariant) (ap (λ l. slice_index_or l 0 0) c.tile_counts.ensures) in
    let second = sum 1 (ap (λ l. slice_index_or l 1 0) c.loop-space.invariant) (ap (λ l. slice_index_or l 1 0) c.tile_counts.ensures) in
    let third = sum 2 (ap (λ l. slice_index_or l 2 0) c.loop-space.invariant) (ap (λ l. slice_index_or l 2 0) c.tile_counts.ensures) in
    let fourth = sum 3 (ap (λ l. slice_index_or l 3 0) c.loop-space.invariant) (ap (λ l. slice_index_or l 3 0) c.tile_counts.ensures) in
    c.added-tiles.ensures ∙ (λ i. first i ∷ second i ∷ third i ∷ fourth i ∷ [])
