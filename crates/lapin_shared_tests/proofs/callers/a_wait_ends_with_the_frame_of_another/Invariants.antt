use Rattle.lapin_shared_tests.proofs.callers.a_wait_ends_with_the_frame_of_another.Given as goal

abbrev pub ghosts-waiting : goal.ghosts-waiting
ghosts-waiting g a = record { name = a.blank.name; parts = a.blank.parts }
