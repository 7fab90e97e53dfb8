use Rattle.split_queue.proofs.PostLaws.{clears-both}
use Rattle.split_queue.proofs.ring.clear_rings.Goals as goal

pub returns : goal.returns
returns c = clears-both _ _ _ c.args.place (rw c.available_area.ensures at c.clear.ensures) (rw c.used_area.ensures at c.clear-2.ensures)
