use Rattle.frame_pool.proofs.free.take.Given as goal

abbrev pub ghosts-take_counted : goal.ghosts-take_counted
ghosts-take_counted a = record { name = a.blank.name; parts = a.blank.parts }
