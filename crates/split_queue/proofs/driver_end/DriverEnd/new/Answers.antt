use Rattle.std.proofs.Common.{refl, sym, ◌∙◌}
use Rattle.split_queue.proofs.AgreementLaws.{fresh-agree}
use Rattle.split_queue.proofs.driver_end.DriverEnd.new.Goals as goal

pub returns-clause-agree : goal.returns-clause-agree
returns-clause-agree c = fresh-agree _ _ _ c.clear_rings.ensures (c.len-mem_len.ensures.value ∙ sym c.clear_rings.ensures.only.size) refl refl
