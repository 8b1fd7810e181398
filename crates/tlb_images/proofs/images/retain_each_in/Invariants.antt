use Rattle.std.proofs.Common.{◌≡◌, ◌++◌, ◌||◌, Bool, not, filter, map, take, drop}
use Rattle.std.specs.Fn.{FnReturnsAt}
use Rattle.pager_model.specs.declared.tile.Tile.{Tile}
use Rattle.tlb_images.specs.Counted.{AreCounted}
use Rattle.tlb_images.specs.Image.{AnswersTest, begins_in}
use Rattle.tlb_images.proofs.images.retain_each_in.Given as goal

abbrev pub invariant-loop-image : goal.invariant-loop-image
invariant-loop-image g l = record {
  counted : AreCounted l.begun l.images;
  kept : (test : Tile → Bool) → AnswersTest (FnReturnsAt g.F.Fn l.is_tile) test
      → l.images ≡ map (filter (λ t. not (begins_in l.range t) || test t))
      (take l.image-index l.fn.images) ++ drop l.image-index l.fn.images;
}
