use Rattle.std.proofs.Common.{arith}
use Rattle.matcher.proofs.shapes.unused_number.Goals as goal

pub returns-clause-none : goal.returns-clause-none
returns-clause-none c = λ number lt. c.loop-number.invariant number (omega arith)
