use Rattle.swap_slots.proofs.table.free.is_free.Given as goal

-- the ledger is the one that the count opens
abbrev pub ghosts-is_free_counted : goal.ghosts-is_free_counted
ghosts-is_free_counted a = record { name = a.blank.name; parts = a.blank.parts }
