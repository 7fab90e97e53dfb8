-- What a live run writes, this project's own: the text of a legal run. There are many, since workers and commands
-- interleave.
use Rattle.std.specs.Prelude.{◌≡◌, ℕ, List, ◌++◌, codes, decimal}
use Rattle.std.specs.List.{enumerate_from, flat_map}
use Rattle.ff_headers.specs.declared.rule.Action.{Action}
use Rattle.steer.specs.LiveRuns.{IsLiveRun, PacketLine}
use Rattle.ntuple_text.specs.SpecTexts.{line_feed}
use Rattle.vnff_run.specs.Replay.{action_text, reply_line}
use Rattle.vnff_run.specs.declared.live_run.LiveRun.{LiveRun}

-- `packet I after K ACTION`: the action of a frame with the objects that K accepted changes leave. Frames count from 0.
unfoldable pub live_line : ℕ → ℕ → Action → List ℕ
live_line number after action =
    codes "packet "
    ++ (decimal number ++ (codes " after " ++ (decimal after ++ (codes " " ++ (action_text action ++ line_feed)))))

-- the line of a packet with its number
abbrev pub numbered_line : ℕ × PacketLine → List ℕ
numbered_line packet = live_line packet.0 packet.1.after packet.1.action

-- a line for each reply, in order, and then one for each packet, in order
unfoldable pub live_text : List (List ℕ) → List PacketLine → List ℕ
live_text replies packets = flat_map reply_line replies ++ flat_map numbered_line (enumerate_from 0 packets)

-- a text that a live run may write: the lines of a legal run
pub record IsLiveText (run : LiveRun) (text : List ℕ) : Type 0 where
  pub replies : List (List ℕ)
  pub packets : List PacketLine
  pub legal : IsLiveRun run.caps run.start run.commands run.frames run.workers run.first replies packets
  pub printed : text ≡ live_text replies packets
