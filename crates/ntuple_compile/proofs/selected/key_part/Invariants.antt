use Rattle.ff_headers.specs.Fields.{fields_of}
use Rattle.ntuple_compile.specs.Selected.{given_for, key_field}
use Rattle.ntuple_compile.specs.SpecFits.{named_fields}
use Rattle.ntuple_compile.proofs.WrittenLemmas.{Written}
use Rattle.ntuple_compile.proofs.selected.key_part.Given as goal

abbrev pub invariant-loop-field : goal.invariant-loop-field
invariant-loop-field l =
    Written (λ f. key_field f.bits (given_for (named_fields l.spec l.kind) f)) (fields_of l.kind) l.field-index l.bytes.items l.rest
