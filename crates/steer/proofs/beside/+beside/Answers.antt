use Rattle.steer.proofs.RowLemmas.{rooms_rest, reads_cons}
use Rattle.steer.proofs.beside.+beside.Goals as goal

pub beside-beside_first-requires-clause-logs : goal.beside-beside_first-requires-clause-logs
beside-beside_first-requires-clause-logs g t c κs within =
    rooms_rest _ c.args.workers c.args.place c.args.readers.now c.in-Some.first.now c.in-Some.others.now c.in-Some.ensures.cases.0 c.requires.logs

pub beside-returns-in-Some-clause-reads : goal.beside-returns-in-Some-clause-reads
beside-returns-in-Some-clause-reads g t c =
    let e = c.beside_first.ensures in
    reads_cons c.args.frames.now c.args.workers c.args.place c.args.readers.now c.in-Some.first.now c.beside_first.new.first c.in-Some.others.now c.beside_first.new.others c.in-Some.ensures.cases.0 e.read e.reads
