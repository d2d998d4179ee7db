use Rattle.lapin_shared_tests.proofs.callers.four_callers_make_a_thousand_steps_each.Given as goal

abbrev pub ghosts-many : goal.ghosts-many
ghosts-many g a = record { name = a.blank.name; parts = a.blank.parts }
