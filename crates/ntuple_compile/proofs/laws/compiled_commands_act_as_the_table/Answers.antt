use Rattle.ntuple_compile.proofs.AcceptedCommands.{commands_act_as_table}
use Rattle.ntuple_compile.proofs.laws.compiled_commands_act_as_the_table.Goals as goal

pub returns : goal.returns
returns c = commands_act_as_table
