use Rattle.std.proofs.Common.{arith}
use Rattle.tlb_images.proofs.CountedLemmas.{class_more}
use Rattle.tlb_images.proofs.images.uncount_all.Goals as goal

pub loop-tile-preserved : goal.loop-tile-preserved
loop-tile-preserved c = λ r below.
    omega (
      arith,
      c.loop-tile.invariant r below,
      c.uncount.ensures.each r below,
      class_more r c.args.tiles.now c.loop-tile.tile-index c.tile-item.result c.loop-tile-test.true c.tile-item.is,
    )
