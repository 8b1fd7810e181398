use Rattle.pager_locks.proofs.shared.share.Given as goal

abbrev pub ghosts-run : goal.ghosts-run
ghosts-run g a = record { journal = a.prepared.journal.name }
