use Rattle.std.proofs.Common.{◌≡◌, true, take}
use Rattle.std.specs.List.{list_all}
use Rattle.ff_headers.specs.Fields.{keeps_field}
use Rattle.ff_headers.proofs.mask_rule.keeps_fields.Given as goal

abbrev pub invariant-loop-field : goal.invariant-loop-field
invariant-loop-field l = list_all (keeps_field l.have l.want) (take l.field-index l.fields) ≡ true
