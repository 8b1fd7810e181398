use Rattle.buddy_extents.proofs.Free.create.Given as goal

abbrev pub ghosts-put_all_in : goal.ghosts-put_all_in
ghosts-put_all_in a = record { name = a.blank.name; parts = a.blank.parts }
