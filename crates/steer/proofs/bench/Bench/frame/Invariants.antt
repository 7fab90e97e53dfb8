-- The steps of the search are counted in a ledger of their own.
use Rattle.steer.proofs.bench.Bench.frame.Given as goal

abbrev pub ghosts-first_action : goal.ghosts-first_action
ghosts-first_action a = record { name = a.blank.name; parts = a.blank.parts }
