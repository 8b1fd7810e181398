use Rattle.std.proofs.Common.{◌≡◌, ℕ, List, [], length, replicate, refl, sym, ap, ◌∙◌}
use Rattle.std.proofs.lemmas.List.{length-replicate}
use Rattle.pager_model.specs.SizeSets.{SizeSet}
use Rattle.pager_model.specs.declared.tile.Tile.{Tile}
use Rattle.space_core.specs.Pages.{IsFresh}
use Rattle.space_core.specs.Tables.{Table}
use Rattle.space_core.proofs.room.SpaceRoom.create.Goals as goal

fresh_by_count : (frames : ℕ) (z : SizeSet) (t : Table) → IsFresh frames z t → IsFresh (length t.frames) t.sizes t
fresh_by_count frames z t is =
    record { sizes = refl; count = refl; none_resident = is.none_resident; none_own = is.none_own }

image_count : (n : ℕ) (images : List (List Tile)) → images ≡ replicate n [] → length images ≡ n
image_count n images is = ap length is ∙ length-replicate {A = List Tile} n []

blank_by_count : (n : ℕ) (images : List (List Tile)) → images ≡ replicate n [] → images ≡ replicate (length images) []
blank_by_count n images is = is ∙ ap (λ k. replicate k []) (sym (image_count n images is))

pub invariant_of-result : goal.invariant_of-result
invariant_of-result c =
    (fresh_by_count c.args.frames c.args.sizes _ c.in_ok-table.ensures, blank_by_count c.args.processors _ c.in_ok-images.ensures)

pub returns : goal.returns
returns c =
    let count : length c.in_ok-images.images ≡ c.args.processors = image_count c.args.processors _ c.in_ok-images.ensures in
    rw (c.in_ok-table.ensures.count, c.in_ok-table.ensures.sizes, count) refl
