use Rattle.device_tests.proofs.tables.the_first_rule_is_found.Given as goal

abbrev pub ghosts-found : goal.ghosts-found
ghosts-found g a = record { name = a.blank.name; parts = a.blank.parts }
