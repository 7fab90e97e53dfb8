-- The words of a spec's line.
use Rattle.std.proofs.Common.{◌≡◌, ℕ, false, List, [], ◌∷◌, ◌++◌, ap, refl, All, Bool, true, cond, sym, ◌∙◌, Some, None, Option, append_assoc, append-nil, codes, eqb, if◌then◌else◌, ◌==◌}
use Rattle.std.specs.Fmt.{decimal}
use Rattle.std.specs.List.{flat_map}
use Rattle.std.proofs.lemmas.Grind.{flat_map-append}
use Rattle.std.proofs.lemmas.List.Elements.{All-head, All-tail}
use Rattle.vnff_base.specs.Lines.{IsWord, words_of}
use Rattle.vnff_base.proofs.TextLaws.{words_of-word, words_of-word_blank}
use Rattle.ntuple_text.specs.Keys.{field_name, flow_word}
use Rattle.ntuple_text.specs.SpecTexts.{value_text, action_words, field_text, field_word, flow_fields, optional_part_text, loc_words, mask_text, options_text, part_text, queue_words, skip_text, spec_part, spec_text}
use Rattle.ntuple_text.specs.declared.key.SpecField.{SpecField}
use Rattle.ntuple_text.specs.declared.key.SpecField.TheVariants.{SrcMac, DstMac, EtherType, SrcIp, DstIp, Tos, TrafficClass, L4Proto, SrcPort, DstPort}
use Rattle.ntuple_text.specs.declared.spec.Flow.{Flow}
use Rattle.ntuple_text.specs.declared.spec.Part.{Part}
use Rattle.ntuple_text.specs.declared.spec.Spec.{Spec}
use Rattle.ntuple_text.specs.declared.spec.TableDo.{TableDo}
use Rattle.ntuple_text.specs.declared.spec.TableDo.TheVariants.{Drop, Queue}

-- the words of a mask, where it skips a bit
abbrev pub mask_words : Flow → SpecField → ℕ → List (List ℕ)
mask_words flow field mask = if mask == 0 then [] else codes "m" ∷ value_text flow field mask ∷ []

-- the words of a field that is given
abbrev pub part_words : Flow → SpecField → Part → List (List ℕ)
part_words flow field part = field_name field ∷ value_text flow field part.value ∷ mask_words flow field part.skip

-- no words, where none is given
abbrev pub given_words : Flow → SpecField → Option Part → List (List ℕ)
given_words flow field None = []
given_words flow field (Some part) = part_words flow field part

-- the words of a spec's fields
abbrev pub field_words : Spec → List SpecField → List (List ℕ)
field_words spec fields = flat_map (λ field. given_words spec.flow field (spec_part spec field)) fields

-- the word of an action
abbrev pub action_word : TableDo → List ℕ
action_word Drop = codes "-1"
action_word (Queue queue) = decimal queue

-- the words of the action and of the location
abbrev pub end_words : TableDo → ℕ → List (List ℕ)
end_words action loc = codes "action" ∷ action_word action ∷ codes "loc" ∷ decimal loc ∷ []

-- the words of a line past its flow
abbrev pub option_words : Spec → List (List ℕ)
option_words spec = field_words spec (flow_fields spec.flow) ++ end_words spec.action spec.loc

-- words, each after a blank
abbrev pub after_blank : List ℕ → List ℕ
after_blank word = 32 ∷ word

abbrev pub blank_words : List (List ℕ) → List ℕ
blank_words words = flat_map after_blank words

-- the text of a field is its words, each after a blank
field_word-name : (field : SpecField) → field_word field ≡ 32 ∷ (field_name field ++ 32 ∷ [])
unfolding field_word field_name
field_word-name SrcMac = refl
field_word-name DstMac = refl
field_word-name EtherType = refl
field_word-name SrcIp = refl
field_word-name DstIp = refl
field_word-name Tos = refl
field_word-name TrafficClass = refl
field_word-name L4Proto = refl
field_word-name SrcPort = refl
field_word-name DstPort = refl

skip_text-words : (flow : Flow) (field : SpecField) (mask : ℕ) → skip_text flow field mask ≡ blank_words (codes "m" ∷ value_text flow field mask ∷ [])
unfolding skip_text
skip_text-words flow field mask = ap (λ text. codes " m " ++ text) (sym (append-nil (value_text flow field mask)))

choice-words : (none : Bool) (text : List ℕ) (words : List (List ℕ)) → text ≡ blank_words words → cond none [] text ≡ blank_words (cond none [] words)
choice-words true text words same = refl
choice-words false text words same = same

mask_text-words : (flow : Flow) (field : SpecField) (mask : ℕ) → mask_text flow field mask ≡ blank_words (mask_words flow field mask)
unfolding mask_text
mask_text-words flow field mask = choice-words (eqb mask 0) (skip_text flow field mask) (codes "m" ∷ value_text flow field mask ∷ []) (skip_text-words flow field mask)

between-blanks : (name text : List ℕ) → (32 ∷ (name ++ 32 ∷ [])) ++ text ≡ 32 ∷ (name ++ 32 ∷ text)
between-blanks name text = ap (λ rest. 32 ∷ rest) (append_assoc name (32 ∷ []) text)

part_text-words : (flow : Flow) (field : SpecField) (part : Part) → part_text flow field part ≡ blank_words (part_words flow field part)
unfolding part_text
part_text-words flow field part =
    let value = value_text flow field part.value in
    ap (λ word. word ++ (value ++ mask_text flow field part.skip)) (field_word-name field) ∙ (between-blanks (field_name field) (value ++ mask_text flow field part.skip) ∙ ap (λ text. 32 ∷ (field_name field ++ 32 ∷ (value ++ text))) (mask_text-words flow field part.skip))

optional_part_text-words : (flow : Flow) (field : SpecField) (part : Option Part) → optional_part_text flow field part ≡ blank_words (given_words flow field part)
optional_part_text-words flow field None = refl
optional_part_text-words flow field (Some part) = part_text-words flow field part

-- the text of all fields, of what comes after them, and of the line
field_text-words : (spec : Spec) (fields : List SpecField) → flat_map (field_text spec) fields ≡ blank_words (field_words spec fields)
unfolding field_text
field_text-words spec [] = refl
field_text-words spec (field ∷ fields) =
    let words = given_words spec.flow field (spec_part spec field) in
    ap (λ text. text ++ flat_map (field_text spec) fields) (optional_part_text-words spec.flow field (spec_part spec field)) ∙ (ap (λ text. blank_words words ++ text) (field_text-words spec fields) ∙ sym (flat_map-append after_blank words (field_words spec fields)))

end_text-words : (action : TableDo) (loc : ℕ) → action_words action ++ loc_words loc ≡ blank_words (end_words action loc)
unfolding action_words queue_words loc_words
end_text-words Drop loc = ap (λ text. codes " action -1 loc " ++ text) (sym (append-nil (decimal loc)))
end_text-words (Queue queue) loc =
    ap (λ text. codes " action " ++ (decimal queue ++ (codes " loc " ++ text))) (sym (append-nil (decimal loc)))

options_text-words : (spec : Spec) → options_text spec ≡ blank_words (option_words spec)
unfolding options_text
options_text-words spec =
    let fields = field_words spec (flow_fields spec.flow) in
    let end = end_words spec.action spec.loc in
    ap (λ text. text ++ (action_words spec.action ++ loc_words spec.loc)) (field_text-words spec (flow_fields spec.flow)) ∙ (ap (λ text. blank_words fields ++ text) (end_text-words spec.action spec.loc) ∙ sym (flat_map-append after_blank fields end))

pub spec_text-words : (spec : Spec) → spec_text spec ≡ codes "flow-type" ++ blank_words (flow_word spec.flow ∷ option_words spec)
unfolding spec_text
spec_text-words spec = ap (λ text. codes "flow-type " ++ (flow_word spec.flow ++ text)) (options_text-words spec)

-- words that are written with single blanks are read back
pub words_of-blank_words : (word : List ℕ) (words : List (List ℕ)) → IsWord word → All IsWord words → words_of (word ++ blank_words words) ≡ word ∷ words
words_of-blank_words word [] good rest = ap words_of (append-nil word) ∙ words_of-word word good
words_of-blank_words word (next ∷ more) good rest =
    words_of-word_blank word (next ++ blank_words more) 32 good refl ∙ ap (λ words. word ∷ words) (words_of-blank_words next more (All-head IsWord next more rest) (All-tail IsWord next more rest))
