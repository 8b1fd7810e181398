use Rattle.tiles.proofs.PageChanges.{coming_is}
use Rattle.tiles.proofs.changes.Changes.came.Goals as goal

pub returns : goal.returns
returns c = rw (← c.self.view_is) (coming_is c.self.inside.page c.self.inside.before c.self.inside.after c.coming.result c.coming.ensures)
