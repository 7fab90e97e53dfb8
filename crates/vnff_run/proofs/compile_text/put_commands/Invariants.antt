-- The items so far were written.
use Rattle.std.proofs.Common.{take}
use Rattle.std.specs.List.{flat_map}
use Rattle.vnff_base.specs.Outputs.{Wrote}
use Rattle.vnff_run.specs.CompileTexts.{command_line}
use Rattle.vnff_run.proofs.compile_text.put_commands.Given as goal

abbrev pub invariant-loop-command : goal.invariant-loop-command
invariant-loop-command g l =
    Wrote (g.O.Out.state l.fn.out) (g.O.Out.state l.out) (flat_map command_line (take l.command-index l.commands))
