use Rattle.journal_core.proofs.steps.write.Given as goal

abbrev pub ghosts-write_named : goal.ghosts-write_named
ghosts-write_named a = record { entry = a._entry.now }
