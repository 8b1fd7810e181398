use Rattle.space_core.proofs.table.PageTable.set_word.Given as goal

abbrev pub ghosts-after_dirty : goal.ghosts-after_dirty
ghosts-after_dirty a = record { name = a.blank.name; parts = a.blank.parts }
