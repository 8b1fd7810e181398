use Rattle.swap_slots.proofs.table.free.lowest.Given as goal

-- the ledger is the one that the count opens
abbrev pub ghosts-lowest_counted : goal.ghosts-lowest_counted
ghosts-lowest_counted a = record { name = a.blank.name; parts = a.blank.parts }
