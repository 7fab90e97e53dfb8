use Rattle.std.proofs.Common.{refl}
use Rattle.cap_table.specs.Steps.{state_after}
use Rattle.vnff_run.specs.Replay.{item_line}
use Rattle.vnff_run.proofs.replay.put_item.Goals as goal

pub returns-in-Admin-clause-line : goal.returns-in-Admin-clause-line
unfolding item_line
returns-in-Admin-clause-line g c = rw c.in-Admin.is c.put_command.ensures.line

pub returns-in-Admin-clause-state : goal.returns-in-Admin-clause-state
unfolding state_after
returns-in-Admin-clause-state g c = rw c.in-Admin.is c.put_command.ensures.state

pub returns-in-Frame-clause-line : goal.returns-in-Frame-clause-line
unfolding item_line
returns-in-Frame-clause-line g c = rw (c.in-Frame.is, ← c.as_slice.ensures) c.put_frame.ensures

pub returns-in-Frame-clause-state : goal.returns-in-Frame-clause-state
unfolding state_after
returns-in-Frame-clause-state g c = rw c.in-Frame.is refl
