use Rattle.pool_tests.proofs.tests.numbers.finds_the_next_number_over_all_levels.Given as goal

abbrev pub ghosts-goes_through : goal.ghosts-goes_through
ghosts-goes_through g a = record { name = a.blank.name; parts = a.blank.parts }
