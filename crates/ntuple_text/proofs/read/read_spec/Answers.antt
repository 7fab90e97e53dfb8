-- The spec of a line is one that a line can spell.
use Rattle.std.proofs.Common.{rules, ◌≡◌, Result, IfOk, subst, sym}
use Rattle.vnff_base.specs.Lines.{words_of}
use Rattle.ntuple_text.specs.Spellable.{IsSpellable}
use Rattle.ntuple_text.specs.TableLines.{spec_of}
use Rattle.ntuple_text.specs.declared.error.Fault.{Fault}
use Rattle.ntuple_text.specs.declared.spec.Spec.{Spec}
use Rattle.ntuple_text.proofs.SpellableLemmas.{spec_of-spellable}
use Rattle.ntuple_text.proofs.read.read_spec.Goals as goal

pub returns-in_ok-read_options-in-Some-flow_of-clause-spellable :
    goal.returns-in_ok-read_options-in-Some-flow_of-clause-spellable
unfolding spec_of
returns-in_ok-read_options-in-Some-flow_of-clause-spellable c =
    let words = words_of c.args.line.now in
    let P : Result Spec Fault → Type 0 = λ read. IfOk read (IsSpellable c.args.table.now.pairs) in
    let value : c.spec_at_end.result ≡ spec_of c.args.table.now words = search rules in
    subst P (sym value) (spec_of-spellable c.args.table.now words c.pairs.ensures.table.size)
