use Rattle.tiles.proofs.base.Base.lookup.Given as goal

abbrev pub ghosts-lookup : goal.ghosts-lookup
ghosts-lookup a = record { name = a.blank.name; parts = a.blank.parts }
