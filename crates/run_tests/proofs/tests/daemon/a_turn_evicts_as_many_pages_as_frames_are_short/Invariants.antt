use Rattle.run_tests.proofs.tests.daemon.a_turn_evicts_as_many_pages_as_frames_are_short.Given as goal

abbrev pub ghosts-turn_twice : goal.ghosts-turn_twice
ghosts-turn_twice g a = record { journal = a.prepared.journal.name }
