-- Commands of which some first ones carry a table into a device, in a live run: what is asked of their replies, and
-- what they leave. This project's own.
use Rattle.std.specs.Prelude.{ℕ, ◌≡◌, List, map, false, All, Ok}
use Rattle.admin_wire.specs.declared.command.Command.{Command}
use Rattle.cap_table.specs.Caps.{CapsParts}
use Rattle.ntuple_text.specs.Spellable.{IsTable}
use Rattle.ntuple_text.specs.TableMaps.{TableMap}
use Rattle.ntuple_compile.specs.Acceptance.{AreSent, SentCommand}
use Rattle.ntuple_compile.specs.Compiled.{compiled}
use Rattle.steer.specs.LiveCommands.{is_no_memory}
use Rattle.steer.specs.declared.admin_line.AdminLine.{AdminLine}

-- the bytes of a command, and the room for its reply
abbrev pub sent_line : AdminLine → SentCommand
sent_line line = (line.bytes, line.room)

-- these commands carry the table, which is compiled for the device
pub record CarryTable (caps : CapsParts) (table : TableMap) (lines : List AdminLine) : Type 0 where
  pub commands : List Command
  pub whole : IsTable table.pairs table.slots
  pub pairs : table.pairs ≡ caps.pairs
  pub made : compiled table caps ≡ Ok commands
  pub sent : AreSent commands (map sent_line lines)

-- none of the replies is the one for want of memory
abbrev pub HaveMemory : List (List ℕ) → Type 0
HaveMemory replies = All (λ reply. is_no_memory reply ≡ false) replies
