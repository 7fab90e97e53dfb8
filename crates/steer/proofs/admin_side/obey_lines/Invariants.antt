use Rattle.steer.specs.AdminSides.{HasCarriedOut}
use Rattle.steer.proofs.admin_side.obey_lines.Given as goal

abbrev pub invariant-loop-n : goal.invariant-loop-n
invariant-loop-n g l = HasCarriedOut l.lines l.from l.n l.initial.side l.side
