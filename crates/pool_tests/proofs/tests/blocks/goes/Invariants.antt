use Rattle.pool_tests.proofs.tests.blocks.goes.Given as goal

abbrev pub ghosts-take : goal.ghosts-take
ghosts-take a = record { name = a.blank.name; parts = a.blank.parts }
