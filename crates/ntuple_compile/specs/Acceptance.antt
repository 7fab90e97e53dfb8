-- When commands are accepted by a device that started ready, and when what they leave acts as a table of specs does:
-- whatever bytes lay the commands out. This project's own.
use Rattle.std.specs.Prelude.{⊤, ℕ, ◌≡◌, ◌≤◌, List, [], ◌∷◌, length, replicate}
use Rattle.std.specs.List.{AllZip}
use Rattle.byte_numbers.specs.Bytes.{IsBytes}
use Rattle.ff_headers.specs.Frames.{headers_of}
use Rattle.ff_headers.specs.Places.{action_of}
use Rattle.admin_wire.specs.declared.command.Command.{Command}
use Rattle.admin_wire.specs.Codes.{most_command_bytes, reply_head_size}
use Rattle.admin_wire.specs.LaidOut.{HasBytes}
use Rattle.admin_wire.specs.Layouts.{command_bytes}
use Rattle.admin_wire.specs.Wire.{Reads}
use Rattle.cap_table.specs.Caps.{CapsParts}
use Rattle.cap_table.specs.States.{DeviceState, start_state}
use Rattle.cap_table.specs.Steps.{next_state, reply_of, state_after}
use Rattle.cap_table.specs.declared.start.Start.TheVariants.{Ready}
use Rattle.ntuple_text.specs.TableMaps.{TableMap}
use Rattle.ntuple_compile.specs.SpecFits.{table_action}

-- ---- what is sent

-- no part of the command is odd or unknown, and its bytes aren't more than this project's driver writes
abbrev pub IsWritable : Command → Type 0
IsWritable command = HasBytes command × (length (command_bytes command) ≤ most_command_bytes)

-- the bytes of a command, and the room for its reply
abbrev pub SentCommand : Type 0
SentCommand = List ℕ × ℕ

-- the bytes lay out the command, and the room holds a reply
abbrev pub IsSent : Command → SentCommand → Type 0
IsSent command sent = Reads sent.0 command × (reply_head_size ≤ sent.1)

-- the bytes lay out these commands, one for one and in order
abbrev pub AreSent : List Command → List SentCommand → Type 0
AreSent commands sent = AllZip IsSent commands sent

-- ---- what is answered, and left

-- the reply of a command that is obeyed and has no result: status 0 and qualifier 0
abbrev pub ok_reply : List ℕ
ok_reply = replicate reply_head_size 0

-- each command is answered so, in the state that those before it leave
abbrev pub AreObeyed : DeviceState → List SentCommand → Type 0
AreObeyed state [] = ⊤
AreObeyed state (sent ∷ later) =
    (reply_of state sent.0 sent.1 ≡ ok_reply) × AreObeyed (next_state state sent.0 sent.1) later

-- a device with these capabilities, started ready, obeys each of the commands
abbrev pub AreAccepted : CapsParts → List Command → Type 0
AreAccepted caps commands =
    (sent : List SentCommand) → AreSent commands sent → AreObeyed (start_state caps Ready) sent

-- after the commands, what happens to each frame is what the table says
abbrev pub ActAs : CapsParts → List Command → TableMap → Type 0
ActAs caps commands table =
    (sent : List SentCommand) (frame : List ℕ) → AreSent commands sent → IsBytes frame
    → action_of (state_after (start_state caps Ready) sent).objects (headers_of frame)
    ≡ table_action table (headers_of frame)
