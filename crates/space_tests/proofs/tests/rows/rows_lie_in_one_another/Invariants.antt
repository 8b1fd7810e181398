use Rattle.space_tests.proofs.tests.rows.rows_lie_in_one_another.Given as goal

abbrev pub ghosts-goes_through : goal.ghosts-goes_through
ghosts-goes_through g a = record { name = a.blank.name; parts = a.blank.parts }
