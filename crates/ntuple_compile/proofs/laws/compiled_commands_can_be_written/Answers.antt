use Rattle.ntuple_compile.proofs.WritableCommands.{commands_are_writable}
use Rattle.ntuple_compile.proofs.laws.compiled_commands_can_be_written.Goals as goal

pub returns : goal.returns
returns c = commands_are_writable
