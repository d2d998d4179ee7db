use Rattle.lapin_shared_tests.proofs.callers.two_callers_use_one_acker_once.Given as goal

abbrev pub ghosts-one_acker : goal.ghosts-one_acker
ghosts-one_acker g a = record { name = a.blank.name; parts = a.blank.parts }
