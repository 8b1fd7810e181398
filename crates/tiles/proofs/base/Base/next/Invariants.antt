use Rattle.tiles.proofs.base.Base.next.Given as goal

abbrev pub ghosts-next : goal.ghosts-next
ghosts-next a = record { name = a.blank.name; parts = a.blank.parts }
