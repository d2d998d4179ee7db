use Rattle.lapin_shared_tests.proofs.work.a_turn_sends_the_verdict_on_its_delivery.Given as goal

abbrev pub ghosts-works : goal.ghosts-works
ghosts-works g a = record { name = a.blank.name; parts = a.blank.parts }
