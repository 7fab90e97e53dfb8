use Rattle.ntuple_compile.proofs.AcceptedCommands.{commands_are_accepted}
use Rattle.ntuple_compile.proofs.laws.compiled_commands_are_accepted.Goals as goal

pub returns : goal.returns
returns c = commands_are_accepted
