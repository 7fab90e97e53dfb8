-- One step of the object machine, and its runs. This project's subset of the draft's administration commands.
use Rattle.std.specs.Prelude.{⊤, IsTrue, ℕ, ◌≡◌, ◌≢◌, ◌⊎◌, List, [], ◌∷◌, Option, Some, None}
use Rattle.ff_headers.specs.Changes.{step}
use Rattle.byte_numbers.specs.Numbers.{le16_at}
use Rattle.admin_wire.specs.declared.command.Command.{Command}
use Rattle.admin_wire.specs.declared.command.Command.TheVariants.{Create, Modify, Destroy}
use Rattle.admin_wire.specs.declared.command.ObjData.{ObjData}
use Rattle.admin_wire.specs.declared.command.ObjHead.{ObjHead}
use Rattle.admin_wire.specs.Layouts.{opcode_for}
use Rattle.admin_wire.specs.Opcodes.{code_of}
use Rattle.admin_wire.specs.Replies.{reply_bytes}
use Rattle.admin_wire.specs.Wire.{Reads}
use Rattle.cap_table.specs.States.{DeviceState, is_opcode_in}
use Rattle.cap_table.specs.Answers.{verdict_of}
use Rattle.cap_table.specs.declared.answer.Answer.{Answer}
use Rattle.cap_table.specs.declared.answer.Effect.{Effect}
use Rattle.cap_table.specs.declared.answer.Effect.TheVariants.{Nothing, Use, Caps, Change}

-- the reply's bytes: status, qualifier, four zero bytes and the result, cut to the room
abbrev pub reply_in : Option Answer → ℕ → List ℕ
reply_in None room = []
reply_in (Some answer) room = reply_bytes answer.reply room

abbrev pub effect_in : Option Answer → Effect
effect_in None = Nothing
effect_in (Some answer) = answer.effect

-- the state with an effect: a change is made where it is sound within the device's limits
abbrev pub with_effect : DeviceState → Effect → DeviceState
with_effect state Nothing = state
with_effect state (Use opcodes) = record state { in_use = opcodes }
with_effect state (Caps driver) = record state { driver = driver }
with_effect state (Change change) = record state { objects = step state.caps.limits state.objects change }

-- the effect of a command
abbrev pub effect_of : DeviceState → List ℕ → ℕ → Effect
effect_of state bytes room = effect_in (verdict_of state bytes room)

-- the reply to a command
abbrev pub reply_of : DeviceState → List ℕ → ℕ → List ℕ
reply_of state bytes room = reply_in (verdict_of state bytes room) room

-- the state that a command leaves
abbrev pub next_state : DeviceState → List ℕ → ℕ → DeviceState
next_state state bytes room = with_effect state (effect_of state bytes room)

-- the state that commands leave, each of its bytes and its room, one after another
unfoldable pub state_after : DeviceState → List (List ℕ × ℕ) → DeviceState
state_after state [] = state
state_after state (command ∷ commands) = state_after (next_state state command.0 command.1) commands

-- an effect that the machine has in the state
abbrev pub IsEffect : DeviceState → Effect → Type 0
IsEffect state effect = (bytes : List ℕ) × (room : ℕ) × (effect_of state bytes room ≡ effect)

-- the status that a reply begins with
abbrev pub status_of : List ℕ → ℕ
status_of reply = le16_at reply 0

-- a command that is answered with another status than 0, or with no bytes, changes nothing
pub record OnlyObeyedChanges (reply : List ℕ) (effect : Effect) : Type 0 where
  pub refused : status_of reply ≢ 0 → effect ≡ Nothing
  pub silent : reply ≡ [] → effect ≡ Nothing

-- the opcode of a command is in use
abbrev pub IsInUse : DeviceState → Command → Type 0
IsInUse state command = IsTrue (is_opcode_in state.in_use (code_of (opcode_for command)))

-- ---- commands on one object

-- the bytes create or modify an object
abbrev pub Puts : List ℕ → ObjHead → ObjData → Type 0
Puts bytes head object = Reads bytes (Create head object) ⊎ Reads bytes (Modify head object)

-- the command creates, modifies or destroys the object of a type and id
abbrev pub IsAbout : ℕ → ℕ → Command → Type 0
IsAbout type_code id (Create head object) = (head.type_code ≡ type_code) × (head.id ≡ id)
IsAbout type_code id (Modify head object) = (head.type_code ≡ type_code) × (head.id ≡ id)
IsAbout type_code id (Destroy head) = (head.type_code ≡ type_code) × (head.id ≡ id)
IsAbout type_code id _ = ⊥

-- a command leaves the object: its bytes lay out none that is about it, or it isn't answered with status 0
abbrev pub LeavesObject : DeviceState → ℕ → ℕ → List ℕ × ℕ → Type 0
LeavesObject state type_code id sent =
    ((command : Command) → Reads sent.0 command → ¬ IsAbout type_code id command)
    ⊎ ((status_of (reply_of state sent.0 sent.1) ≢ 0) ⊎ (reply_of state sent.0 sent.1 ≡ []))

-- so does each command of a run, in the state that those before it leave
abbrev pub RunLeaves : DeviceState → ℕ → ℕ → List (List ℕ × ℕ) → Type 0
RunLeaves state type_code id [] = ⊤
RunLeaves state type_code id (sent ∷ commands) =
    LeavesObject state type_code id sent × RunLeaves (next_state state sent.0 sent.1) type_code id commands
