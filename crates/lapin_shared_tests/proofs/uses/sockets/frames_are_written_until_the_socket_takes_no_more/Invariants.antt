use Rattle.lapin_shared_tests.proofs.uses.sockets.frames_are_written_until_the_socket_takes_no_more.Given as goal

abbrev pub ghosts-alone : goal.ghosts-alone
ghosts-alone g a = record { name = a.blank.name; parts = a.blank.parts }
