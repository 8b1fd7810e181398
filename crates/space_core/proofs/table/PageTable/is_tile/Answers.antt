use Rattle.space_core.proofs.table.PageTable.is_tile.Goals as goal

pub returns : goal.returns
returns c = rw (← c.self.view_is) c.is_tile.ensures
