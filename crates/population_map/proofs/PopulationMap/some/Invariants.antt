use Rattle.population_map.proofs.PopulationMap.some.Given as goal

abbrev pub ghosts-mark_of : goal.ghosts-mark_of
ghosts-mark_of a = record { name = a.blank.name; parts = a.blank.parts }
