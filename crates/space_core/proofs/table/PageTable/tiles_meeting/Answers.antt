use Rattle.space_core.proofs.table.PageTable.tiles_meeting.Goals as goal

pub returns : goal.returns
returns c = rw (← c.self.view_is) c.tiles_meeting.ensures
