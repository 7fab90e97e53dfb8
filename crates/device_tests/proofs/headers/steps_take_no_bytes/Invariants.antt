use Rattle.device_tests.proofs.headers.steps_take_no_bytes.Given as goal

abbrev pub ghosts-compared : goal.ghosts-compared
ghosts-compared g a = record { name = a.blank.name; parts = a.blank.parts }
