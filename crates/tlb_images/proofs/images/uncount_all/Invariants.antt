use Rattle.std.proofs.Common.{◌≡◌, ℕ, ◌+◌, ◌<◌, get_or, take}
use Rattle.tlb_images.specs.Counted.{remainders, class_count}
use Rattle.tlb_images.proofs.images.uncount_all.Given as goal

abbrev pub invariant-loop-tile : goal.invariant-loop-tile
invariant-loop-tile l = (r : ℕ) → r < remainders → get_or l.begun r 0 + class_count r (take l.tile-index l.tiles) ≡ get_or l.fn.begun r 0
