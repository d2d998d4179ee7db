use Rattle.lapin_shared_tests.proofs.workers.two_workers_meet_at_the_gate.Given as goal

abbrev pub ghosts-meet : goal.ghosts-meet
ghosts-meet g a = record { name = a.blank.name; parts = a.blank.parts }
