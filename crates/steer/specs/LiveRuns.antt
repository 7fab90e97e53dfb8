-- Runs in which workers read frames while commands change the rules. This project's own; the machine's step is
-- cap_table's, and the first matching rule that of ff_headers.
use Rattle.std.specs.Prelude.{ℕ, ◌≡◌, ◌<◌, ◌≤◌, ◌%◌, List, length, take, Some, slice_get}
use Rattle.std.specs.List.{AllZip}
use Rattle.ff_headers.specs.Changes.{after}
use Rattle.ff_headers.specs.Frames.{headers_of}
use Rattle.ff_headers.specs.Places.{action_of}
use Rattle.ff_headers.specs.declared.change.Change.{Change}
use Rattle.ff_headers.specs.declared.limits.Limits.{Limits}
use Rattle.ff_headers.specs.declared.rule.Action.{Action}
use Rattle.cap_table.specs.Caps.{CapsParts}
use Rattle.cap_table.specs.States.{start_state}
use Rattle.cap_table.specs.declared.start.Start.{Start}
use Rattle.steer.specs.LiveCommands.{AreAnswered, changes_made}
use Rattle.steer.specs.declared.admin_line.AdminLine.{AdminLine}

-- what is told of a frame: the number of accepted changes that were seen, and what happens to the frame
pub record PacketLine : Type 0 where
  pub after : ℕ
  pub action : Action

-- a frame's line: no more changes were seen than there are, and no fewer than the worker was told of before its first
-- frame; the action is that of the first matching rule after so many
pub record IsPacketLine (limits : Limits) (changes : List Change) (told : ℕ) (frame : List ℕ) (line : PacketLine)
    : Type 0 where
  pub counted : line.after ≤ length changes
  pub covers : told ≤ line.after
  pub acted : line.action ≡ action_of (after limits changes line.after) (headers_of frame)

-- the changes of all commands with these replies, from a device at its start
abbrev pub accepted_changes : CapsParts → Start → List AdminLine → List (List ℕ) → List Change
accepted_changes caps start commands replies = changes_made (start_state caps start) commands replies

-- how many changes the first commands made
abbrev pub told_changes : CapsParts → Start → List AdminLine → List (List ℕ) → ℕ → ℕ
told_changes caps start commands replies first =
    length (accepted_changes caps start (take first commands) (take first replies))

-- a legal run of so many workers over frames, beside commands of which the workers were told the first ones: each
-- command is answered by the machine or refused for want of memory; each frame has a line; and along the frames of one
-- worker, to whom those of one remainder belong, the numbers of changes don't fall
pub record IsLiveRun (caps : CapsParts) (start : Start) (commands : List AdminLine) (frames : List (List ℕ))
    (workers first : ℕ) (replies : List (List ℕ)) (lines : List PacketLine) : Type 0 where
  pub answered : AreAnswered (start_state caps start) commands replies
  pub packets : AllZip (IsPacketLine caps.limits (accepted_changes caps start commands replies)
      (told_changes caps start commands replies first)) frames lines
  pub rises : (i j : ℕ) (a b : PacketLine) → i < j → i % workers ≡ j % workers
      → slice_get lines i ≡ Some a → slice_get lines j ≡ Some b → a.after ≤ b.after
