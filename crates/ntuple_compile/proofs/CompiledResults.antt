-- What holds of a result that is a table's commands, or why there are none.
use Rattle.std.proofs.Common.{◌≡◌, List, Ok, Err, Result, MatchResult}
use Rattle.std.specs.Prelude.{All, IfOk}
use Rattle.admin_wire.specs.declared.command.Command.{Command}
use Rattle.cap_table.specs.Caps.{CapsParts}
use Rattle.ntuple_text.specs.Spellable.{IsTable}
use Rattle.ntuple_text.specs.TableMaps.{TableMap}
use Rattle.ntuple_compile.specs.Acceptance.{ActAs, AreAccepted, IsWritable}
use Rattle.ntuple_compile.specs.Compiled.{compiled}
use Rattle.ntuple_compile.specs.declared.error.CompileErr.{CompileErr}
use Rattle.ntuple_compile.proofs.AcceptedCommands.{commands_act_as_table, commands_are_accepted}
use Rattle.ntuple_compile.proofs.WritableCommands.{commands_are_writable}

-- its commands are the table's
abbrev IsCompiled : TableMap → CapsParts → Result (List Command) CompileErr → (CompileErr → Type 0) → Type 0
IsCompiled table caps result Fault = MatchResult result (λ commands. compiled table caps ≡ Ok commands) Fault

module _ (table : TableMap) (caps : CapsParts) (Fault : CompileErr → Type 0) where
  pub result_writable : (result : Result (List Command) CompileErr) → IsCompiled table caps result Fault → IfOk result (All IsWritable)
  result_writable (Ok commands) is = commands_are_writable table caps commands is
  result_writable (Err fault) is = tt

  module _ (held : IsTable table.pairs table.slots) (same : table.pairs ≡ caps.pairs) where
    pub result_accepted : (result : Result (List Command) CompileErr) → IsCompiled table caps result Fault → IfOk result (AreAccepted caps)
    result_accepted (Ok commands) is = commands_are_accepted table caps commands held same is
    result_accepted (Err fault) is = tt

    pub result_acts : (result : Result (List Command) CompileErr) → IsCompiled table caps result Fault → IfOk result (λ commands. ActAs caps commands table)
    result_acts (Ok commands) is = commands_act_as_table table caps commands held same is
    result_acts (Err fault) is = tt
