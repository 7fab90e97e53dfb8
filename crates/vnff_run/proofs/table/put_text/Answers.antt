use Rattle.vnff_base.proofs.Gathering.{writes_gathered, writes_lost}
use Rattle.vnff_base.proofs.Writing.{writes_stopped}
use Rattle.vnff_run.proofs.table.put_text.Goals as goal

pub returns-in_err-put_packets : goal.returns-in_err-put_packets
returns-in_err-put_packets g c = writes_stopped _ _ c.from_residual.ensures.1 (writes_lost c.requires.1.0 c.in_err-put_packets.ensures)

pub returns : goal.returns
returns g c = writes_gathered _ c.finish.result c.requires.1.0 c.in_ok-put_packets.ensures c.finish.ensures.written
