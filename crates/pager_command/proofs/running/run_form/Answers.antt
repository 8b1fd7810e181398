use Rattle.pager_command.proofs.running.run_form.Goals as goal

pub returns-in-InOneThread-clause-runs : goal.returns-in-InOneThread-clause-runs
returns-in-InOneThread-clause-runs g c = rw c.in-InOneThread.is c.run_in_one_thread.ensures.runs

pub returns-in-Threads-clause-runs : goal.returns-in-Threads-clause-runs
returns-in-Threads-clause-runs g c = rw c.in-Threads.is c.run_in_threads.ensures.runs
