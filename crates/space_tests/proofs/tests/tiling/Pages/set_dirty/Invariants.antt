use Rattle.space_tests.proofs.tests.tiling.Pages.set_dirty.Given as goal

abbrev pub ghosts-after_dirty : goal.ghosts-after_dirty
ghosts-after_dirty a = record { name = a.blank.name; parts = a.blank.parts }
