use Rattle.std.proofs.Common.{◌≡◌, ◌++◌}
use Rattle.tiles.specs.Changes.{beside}
use Rattle.tiles.proofs.tile_list.TileList.add_beside.Given as goal

abbrev pub invariant-loop-part : goal.invariant-loop-part
invariant-loop-part l = l.self ≡ l.fn.self ++ beside l.fn.level l.page l.whole l.part
