use Rattle.followed_space.proofs.space.FollowedSpace.mark.Given as goal

abbrev pub ghosts-after_dirty : goal.ghosts-after_dirty
ghosts-after_dirty a = record { name = a.blank.name; parts = a.blank.parts }
