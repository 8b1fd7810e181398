use Rattle.space_tests.proofs.tests.tiling.Pages.remove.Given as goal

abbrev pub ghosts-after_remove : goal.ghosts-after_remove
ghosts-after_remove a = record { name = a.blank.name; parts = a.blank.parts }
