use Rattle.std.proofs.Common.{sym, ap, ◌∙◌}
use Rattle.admin_wire.specs.Wire.{command_of}
use Rattle.cap_table.specs.Steps.{next_state}
use Rattle.vnff_run.specs.CompileTexts.{reply_room}
use Rattle.vnff_run.proofs.table.send.Goals as goal

pub returns-clause-state : goal.returns-clause-state
returns-clause-state c =
    c.admin-reply.ensures.state
    ∙ ap (λ bytes. next_state c.args.bench.now.device bytes reply_room) (c.as_slice.ensures.value ∙ c.put_command-bytes.ensures.bytes)

pub returns-clause-sent : goal.returns-clause-sent
returns-clause-sent c = ap command_of (sym c.put_command-bytes.ensures.bytes) ∙ c.put_command-bytes.ensures.read_back
