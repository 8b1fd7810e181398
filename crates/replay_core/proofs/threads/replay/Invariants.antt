use Rattle.replay_core.proofs.threads.replay.Given as goal

abbrev pub ghosts-run_jobs : goal.ghosts-run_jobs
ghosts-run_jobs g a = record { journal = a.prepared.journal.name }
