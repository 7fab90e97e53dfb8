-- The script that a table is compiled to, this project's own: the device, the specs as comments, and the commands.
use Rattle.std.specs.Prelude.{ℕ, List, ◌∷◌, ◌++◌, codes}
use Rattle.std.specs.List.{flat_map}
use Rattle.admin_wire.specs.Layouts.{command_bytes}
use Rattle.admin_wire.specs.declared.command.Command.{Command}
use Rattle.cap_table.specs.Caps.{CapsParts}
use Rattle.cap_table.specs.declared.start.Start.TheVariants.{Ready}
use Rattle.ntuple_text.specs.SpecTexts.{spec_text, line_feed}
use Rattle.ntuple_text.specs.declared.spec.Spec.{Spec}
use Rattle.ntuple_compile.specs.SpecFits.{specs_of}
use Rattle.vnff_run.specs.ScriptTexts.{device_words, item_words, line_text, selector_lines, version_words}
use Rattle.vnff_run.specs.declared.compiled.CompiledTable.{CompiledTable}
use Rattle.vnff_run.specs.declared.script.Item.TheVariants.{Admin}

-- the room that each command is given for its reply, in bytes: that of a reply without a result
abbrev pub reply_room : ℕ
reply_room = 8

-- the lines of a device that starts ready: `vnff 1`, the device's, and those of its selectors
unfoldable pub device_text : CapsParts → List ℕ
device_text caps = flat_map line_text (version_words ∷ device_words caps Ready ∷ selector_lines caps.selectors)

-- a spec as a comment: `# ` and its canonical line
unfoldable pub comment_line : Spec → List ℕ
comment_line spec = codes "# " ++ (spec_text spec ++ line_feed)

-- `admin HEX 8`, with the bytes of the command
unfoldable pub command_line : Command → List ℕ
command_line command = line_text (item_words (Admin (record { bytes = command_bytes command; room = reply_room })))

-- the whole script
unfoldable pub compile_text : CompiledTable → List ℕ
compile_text run =
    device_text run.caps ++ (flat_map comment_line (specs_of run.table) ++ flat_map command_line run.commands)
