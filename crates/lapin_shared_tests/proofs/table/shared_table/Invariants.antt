use Rattle.lapin_shared_tests.proofs.table.shared_table.Given as goal

abbrev pub ghosts-calls_by_name : goal.ghosts-calls_by_name
ghosts-calls_by_name g a = record { name = a.blank.name; parts = a.blank.parts }
