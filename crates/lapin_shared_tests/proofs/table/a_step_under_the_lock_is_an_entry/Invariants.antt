use Rattle.lapin_shared_tests.proofs.table.a_step_under_the_lock_is_an_entry.Given as goal

abbrev pub ghosts-steps_by_hand : goal.ghosts-steps_by_hand
ghosts-steps_by_hand g a = record { name = a.blank.name; parts = a.blank.parts }
