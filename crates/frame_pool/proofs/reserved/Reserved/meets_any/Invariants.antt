use Rattle.frame_pool.proofs.reserved.Reserved.meets_any.Given as goal

abbrev pub ghosts-meets : goal.ghosts-meets
ghosts-meets a = record { name = a.blank.name; parts = a.blank.parts }
