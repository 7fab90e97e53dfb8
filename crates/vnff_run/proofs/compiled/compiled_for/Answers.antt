use Rattle.vnff_run.proofs.TableInputLemmas.{compiled_stops}
use Rattle.vnff_run.proofs.compiled.compiled_for.Goals as goal

pub returns-in-Err-clause-judged : goal.returns-in-Err-clause-judged
returns-in-Err-clause-judged c = rw c.compile_stop.ensures (compiled_stops c.args.caps c.args.table c.in-Err.err c.in-Err.ensures.value)
