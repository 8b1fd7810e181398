use Rattle.space_tests.proofs.tests.tiling.Pages.protect.Given as goal

abbrev pub ghosts-after_rights : goal.ghosts-after_rights
ghosts-after_rights a = record { name = a.blank.name; parts = a.blank.parts }
