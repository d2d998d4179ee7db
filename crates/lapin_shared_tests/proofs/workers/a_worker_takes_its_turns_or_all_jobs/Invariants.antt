use Rattle.lapin_shared_tests.proofs.workers.a_worker_takes_its_turns_or_all_jobs.Given as goal

abbrev pub ghosts-works_alone : goal.ghosts-works_alone
ghosts-works_alone g a = record { name = a.blank.name; parts = a.blank.parts }
