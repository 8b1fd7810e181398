use Rattle.space_core.proofs.table.PageTable.translate.Goals as goal

pub returns-clause-tile : goal.returns-clause-tile
returns-clause-tile c = rw (← c.self.view_is) c.translate.ensures.tile
