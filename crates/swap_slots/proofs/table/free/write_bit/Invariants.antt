use Rattle.swap_slots.proofs.table.free.write_bit.Given as goal

-- the ledger is the one that the count opens
abbrev pub ghosts-write_bit_counted : goal.ghosts-write_bit_counted
ghosts-write_bit_counted a = record { name = a.blank.name; parts = a.blank.parts }
