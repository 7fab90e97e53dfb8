-- The line of a spec is read back.
use Rattle.std.proofs.Common.{◌≡◌, ℕ, ◌≤◌, List, [], ◌∷◌, ap, refl, ◌∙◌, Some, codes, Ok}
use Rattle.vnff_base.specs.Lines.{words_of}
use Rattle.ntuple_text.specs.Drafts.{draft_of, read_options, with_action, with_loc}
use Rattle.ntuple_text.specs.Keys.{flow_of, flow_word}
use Rattle.ntuple_text.specs.SpecTexts.{flow_fields, spec_text}
use Rattle.ntuple_text.specs.Spellable.{IsSpellable}
use Rattle.ntuple_text.specs.Steps.{and_then}
use Rattle.ntuple_text.specs.TableLines.{spec_of_options, after_line, spec_at_end, after_directive, flow_spec, spec_of, without_command}
use Rattle.ntuple_text.specs.TableMaps.{TableMap, with_spec}
use Rattle.ntuple_text.specs.declared.draft.Draft.{Draft}
use Rattle.ntuple_text.specs.declared.spec.Flow.{Flow}
use Rattle.ntuple_text.specs.declared.spec.Flow.TheVariants.{Ether, Ip4, Tcp4, Udp4, Ip6, Tcp6, Udp6}
use Rattle.ntuple_text.specs.declared.spec.Spec.{Spec}
use Rattle.ntuple_text.specs.declared.spec.TableDo.{TableDo}
use Rattle.ntuple_text.proofs.EndReadBack.{end-read}
use Rattle.ntuple_text.proofs.FieldsReadBack.{with_fields, fields-read, fields-ready}
use Rattle.ntuple_text.proofs.FlowFields.{fields-new, fields-are}
use Rattle.ntuple_text.proofs.OptionSteps.{options-append}
use Rattle.ntuple_text.proofs.SpecLines.{words_of-spec_text}
use Rattle.ntuple_text.proofs.WordsReadBack.{field_words, end_words, option_words}

-- a draft with an action and a location is a spec
spec_at_end-read : (table : TableMap) (draft : Draft) (action : TableDo) (loc : ℕ) → spec_at_end table (with_loc (with_action draft action) loc) ≡ Ok (spec_of_options draft action loc)
unfolding spec_at_end
spec_at_end-read table draft action loc = refl

-- the word of a flow names it
flow-read : (flow : Flow) → flow_of (flow_word flow) ≡ Some flow
unfolding flow_of flow_word
flow-read Ether = refl
flow-read Ip4 = refl
flow-read Tcp4 = refl
flow-read Udp4 = refl
flow-read Ip6 = refl
flow-read Tcp6 = refl
flow-read Udp6 = refl

-- the options give a draft with all of the spec
options-read : (pairs : ℕ) (spec : Spec) → pairs ≤ 16 → IsSpellable pairs spec → let draft = with_fields spec (draft_of spec.flow) (flow_fields spec.flow) in read_options pairs (draft_of spec.flow) (option_words spec) ≡ Ok (with_loc (with_action draft spec.action) spec.loc)
options-read pairs spec few good =
    let fields = flow_fields spec.flow in
    let start = draft_of spec.flow in
    let draft = with_fields spec start fields in
    let end = end_words spec.action spec.loc in
    let left = fields-are spec.flow spec.src spec.dst spec.proto spec.class spec.src_port spec.dst_port spec.action spec.loc good.parts in
    let new = fields-new spec.flow spec.src spec.dst spec.proto spec.class spec.src_port spec.dst_port spec.action spec.loc good.parts in
    options-append pairs start (field_words spec fields) end ∙ (ap (and_then (λ next. read_options pairs next end)) (fields-read pairs spec start fields refl new) ∙ end-read pairs draft spec.action spec.loc (fields-ready spec start fields refl) left.acts left.stands few good.action good.loc)

-- the words after `flow-type` give the spec
spec-read : (table : TableMap) (spec : Spec) → table.pairs ≤ 16 → IsSpellable table.pairs spec → spec_of table (flow_word spec.flow ∷ option_words spec) ≡ Ok spec
unfolding spec_of
spec-read table spec few good =
    let words = option_words spec in
    let draft = with_fields spec (draft_of spec.flow) (flow_fields spec.flow) in
    let left = fields-are spec.flow spec.src spec.dst spec.proto spec.class spec.src_port spec.dst_port spec.action spec.loc good.parts in
    ap (flow_spec table words) (flow-read spec.flow) ∙ (ap (and_then (spec_at_end table)) (options-read table.pairs spec few good) ∙ (spec_at_end-read table draft spec.action spec.loc ∙ ap Ok left.is))

-- no command comes before `flow-type`
no-command : (words : List (List ℕ)) → without_command (codes "flow-type" ∷ words) ≡ codes "flow-type" ∷ words
unfolding without_command
no-command [] = refl
no-command (second ∷ []) = refl
no-command (second ∷ third ∷ words) = refl

-- the words of a spec's line put the spec into the table
pub words-line : (table : TableMap) (spec : Spec) → table.pairs ≤ 16 → IsSpellable table.pairs spec → after_line table (codes "flow-type" ∷ flow_word spec.flow ∷ option_words spec) ≡ Ok (with_spec table spec)
unfolding after_line after_directive
words-line table spec few good =
    ap (after_directive table) (no-command (flow_word spec.flow ∷ option_words spec)) ∙ ap (and_then (λ read. Ok (with_spec table read))) (spec-read table spec few good)

-- what is written of a spec is read back
pub line-read : (table : TableMap) (spec : Spec) → table.pairs ≤ 16 → IsSpellable table.pairs spec → after_line table (words_of (spec_text spec)) ≡ Ok (with_spec table spec)
line-read table spec few good = ap (after_line table) (words_of-spec_text table.pairs spec few good) ∙ words-line table spec few good
