use Rattle.lapin_shared_tests.proofs.work.a_turn_ends_as_its_job_asks.Given as goal

abbrev pub ghosts-works : goal.ghosts-works
ghosts-works g a = record { name = a.blank.name; parts = a.blank.parts }
