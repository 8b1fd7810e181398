use Rattle.std.proofs.Common.{◌≡◌, ◌-◌, ◌<◌, ◌++◌}
use Rattle.tiles.specs.Changes.{cut_round}
use Rattle.tiles.proofs.tile_list.TileList.add_cut.Given as goal

abbrev pub invariant-loop-level : goal.invariant-loop-level
invariant-loop-level l = record {
  list : l.self ≡ l.fn.self ++ cut_round l.page l.whole l.fn.down_to (l.level - l.fn.down_to);
  none : l.level-end < l.fn.down_to → l.level ≡ l.fn.down_to;
}
