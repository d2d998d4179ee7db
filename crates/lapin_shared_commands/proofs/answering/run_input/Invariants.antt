use Rattle.lapin_shared_commands.proofs.answering.run_input.Given as goal

abbrev pub ghosts-shared_history : goal.ghosts-shared_history
ghosts-shared_history g a = record { name = a.blank.name; parts = a.blank.parts }
