use Rattle.population_map.proofs.PopulationMap.split.Given as goal

abbrev pub ghosts-split : goal.ghosts-split
ghosts-split a = record { name = a.blank.name; parts = a.blank.parts }
