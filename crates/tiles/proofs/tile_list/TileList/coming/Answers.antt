use Rattle.std.proofs.Common.{length, ap, ◌∙◌, arith}
use Rattle.tiles.proofs.tile_list.TileList.coming.Goals as goal
use Rattle.tiles.proofs.tile_list.TileList.coming.Goals.{in-Some, in_default}

pub add_cut-requires-clause-room : goal.add_cut-requires-clause-room
add_cut-requires-clause-room c = elim c.match-after.branch [
  | in-Some w ↦ omega (arith, ap length (w.list-is ∙ (rw c.create-list.ensures at w.push.ensures)))
  | in_default w ↦ omega (arith, ap length (w.list-is ∙ c.create-list.ensures))
]

pub add_cut-requires-clause-round : goal.add_cut-requires-clause-round
add_cut-requires-clause-round c = rw c.in-Some-before.is at c.requires.round
