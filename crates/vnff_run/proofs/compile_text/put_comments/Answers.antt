use Rattle.vnff_run.proofs.CompiledLines.{comments_of_slots}
use Rattle.vnff_run.proofs.compile_text.put_comments.Goals as goal

pub returns : goal.returns
returns g c = rw (comments_of_slots c.args.table.now, ← c.slots.ensures.value) c.put_slots.ensures
