use Rattle.lapin_pool_commands.proofs.answering.run_input.Given as goal

abbrev pub ghosts-pool_end : goal.ghosts-pool_end
ghosts-pool_end g a = record { name = a.blank.name; parts = a.blank.parts }
