use Rattle.cap_table.specs.States.{start_state}
use Rattle.std.proofs.Common.{map}
use Rattle.steer.specs.LiveRuns.{accepted_changes}
use Rattle.steer.proofs.LegalRuns.{machine_replies, last_line, legal_run}
use Rattle.steer.proofs.laws.legal_runs_exist.Goals as goal

pub returns : goal.returns
returns c = λ caps start commands frames workers first.
    let replies = machine_replies (start_state caps start) commands in
    let lines = map (last_line caps.limits (accepted_changes caps start commands replies)) frames in
    (replies, lines, legal_run caps start commands frames workers first)
