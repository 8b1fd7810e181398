use Rattle.std.proofs.Common.{◌≡◌, take}
use Rattle.std.specs.List.{list_any}
use Rattle.tlb_images.specs.Image.{begins_in}
use Rattle.tlb_images.proofs.image.any_begins_in.Given as goal

abbrev pub invariant-loop-tile : goal.invariant-loop-tile
invariant-loop-tile l = l.any ≡ list_any (begins_in l.range) (take l.tile-index l.tiles)
