use Rattle.std.proofs.Common.{◌≡◌, false, take}
use Rattle.std.specs.List.{list_any}
use Rattle.ntuple_compile.specs.Selected.{is_part_of_field}
use Rattle.ntuple_compile.proofs.selected.has_part.Given as goal

abbrev pub invariant-loop-field : goal.invariant-loop-field
invariant-loop-field l = list_any (is_part_of_field l.mask) (take l.field-index l.fields) ≡ false
