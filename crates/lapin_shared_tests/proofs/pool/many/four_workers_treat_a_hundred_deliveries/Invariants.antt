use Rattle.lapin_shared_tests.proofs.pool.many.four_workers_treat_a_hundred_deliveries.Given as goal

abbrev pub ghosts-hundred : goal.ghosts-hundred
ghosts-hundred g a = record { name = a.blank.name; parts = a.blank.parts }
