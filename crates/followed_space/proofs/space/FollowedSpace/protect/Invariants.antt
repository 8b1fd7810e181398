use Rattle.followed_space.proofs.space.FollowedSpace.protect.Given as goal

abbrev pub ghosts-after_rights : goal.ghosts-after_rights
ghosts-after_rights a = record { name = a.blank.name; parts = a.blank.parts }
