use Rattle.lapin_shared_tests.proofs.pool.meeting.pool_meet.Given as goal

abbrev pub ghosts-meet : goal.ghosts-meet
ghosts-meet g a = record { name = a.blank.name; parts = a.blank.parts }
