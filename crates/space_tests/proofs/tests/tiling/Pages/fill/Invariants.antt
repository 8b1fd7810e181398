use Rattle.space_tests.proofs.tests.tiling.Pages.fill.Given as goal

abbrev pub ghosts-after_fill : goal.ghosts-after_fill
ghosts-after_fill a = record { name = a.blank.name; parts = a.blank.parts }
