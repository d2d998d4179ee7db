use Rattle.lapin_shared_tests.proofs.callers.all_callers_have_to_come_back.Given as goal

abbrev pub ghosts-missing : goal.ghosts-missing
ghosts-missing g a = record { name = a.blank.name; parts = a.blank.parts }
