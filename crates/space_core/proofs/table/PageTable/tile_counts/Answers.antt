use Rattle.space_core.proofs.table.PageTable.tile_counts.Goals as goal

pub returns : goal.returns
returns c = rw (← c.self.view_is) c.counts.ensures
