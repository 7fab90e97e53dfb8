-- The fields of a spec's line are read back.
use Rattle.std.proofs.Common.{◌≡◌, ℕ, ◌<◌, false, List, [], ◌∷◌, ap, refl, Bool, true, sym, ◌∙◌, Some, None, Option, codes, eqb, if◌then◌else◌, ◌==◌, Ok, Err, is_some}
use Rattle.std.proofs.lemmas.Bool.{cond-true, eqb-true}
use Rattle.ntuple_text.specs.Drafts.{with_awaits, with_option, with_mask_word, unless_stood, part_of, read_options, read_word, with_value_word, with_mask, with_part, with_value}
use Rattle.ntuple_text.specs.Keys.{field_name, form_of, has_field}
use Rattle.ntuple_text.specs.SpecTexts.{form_range, value_text, spec_part}
use Rattle.ntuple_text.specs.Spellable.{IsSpelledIn}
use Rattle.ntuple_text.specs.Steps.{and_then}
use Rattle.ntuple_text.specs.Values.{field_value}
use Rattle.ntuple_text.specs.declared.draft.Awaits.{Awaits}
use Rattle.ntuple_text.specs.declared.draft.Awaits.TheVariants.{OptionWord, Value, Mark, Mask}
use Rattle.ntuple_text.specs.declared.draft.Draft.{Draft}
use Rattle.ntuple_text.specs.declared.error.Fault.TheVariants as fault
use Rattle.ntuple_text.specs.declared.key.SpecField.{SpecField}
use Rattle.ntuple_text.specs.declared.key.SpecField.TheVariants.{SrcMac, DstMac, EtherType, SrcIp, DstIp, Tos, TrafficClass, L4Proto, SrcPort, DstPort}
use Rattle.ntuple_text.specs.declared.key.OptionKey.TheVariants as key
use Rattle.ntuple_text.specs.declared.spec.Part.{Part}
use Rattle.ntuple_text.specs.declared.spec.Spec.{Spec}
use Rattle.ntuple_text.proofs.OptionSteps.{name-key, name-other, options-append, options-step, is_ready, ready-word, unless_stood-new}
use Rattle.ntuple_text.proofs.ValuesReadBack.{value-read}
use Rattle.ntuple_text.proofs.WordsReadBack.{mask_words, part_words, given_words, field_words}

-- a new field of the flow is taken
with_option-field : (draft : Draft) (field : SpecField) → has_field draft.flow field ≡ true → part_of draft field ≡ None → with_option draft (key.SpecField field) ≡ Ok (with_awaits draft (Value (key.SpecField field)))
unfolding with_option
with_option-field draft field within new =
    cond-true (has_field draft.flow field) (unless_stood draft (is_some (part_of draft field)) (key.SpecField field)) (Err fault.NotInFlow) within ∙ unless_stood-new draft (key.SpecField field) (is_some (part_of draft field)) (ap is_some new)

-- a part of which all bits are compared
abbrev unmasked : ℕ → Part
unmasked value = record { value = value; skip = 0 }

-- the draft after a field's value, or after its mask
abbrev given : Draft → SpecField → Part → Awaits → Draft
given draft field part next = with_awaits (with_part draft field (Some part)) next

value-given : (draft : Draft) (field : SpecField) (value : ℕ) → with_value (with_awaits draft (Value (key.SpecField field))) field value ≡ given draft field (unmasked value) (Mark field)
value-given draft SrcMac value = refl
value-given draft DstMac value = refl
value-given draft EtherType value = refl
value-given draft SrcIp value = refl
value-given draft DstIp value = refl
value-given draft Tos value = refl
value-given draft TrafficClass value = refl
value-given draft L4Proto value = refl
value-given draft SrcPort value = refl
value-given draft DstPort value = refl

mask-given : (draft : Draft) (field : SpecField) (value mask : ℕ) → with_mask (given draft field (unmasked value) (Mask field)) field mask ≡ given draft field (record { value = value; skip = mask }) OptionWord
mask-given draft SrcMac value mask = refl
mask-given draft DstMac value mask = refl
mask-given draft EtherType value mask = refl
mask-given draft SrcIp value mask = refl
mask-given draft DstIp value mask = refl
mask-given draft Tos value mask = refl
mask-given draft TrafficClass value mask = refl
mask-given draft L4Proto value mask = refl
mask-given draft SrcPort value mask = refl
mask-given draft DstPort value mask = refl

given-flow : (draft : Draft) (field : SpecField) (part : Part) (next : Awaits) → (given draft field part next).flow ≡ draft.flow
given-flow draft SrcMac part next = refl
given-flow draft DstMac part next = refl
given-flow draft EtherType part next = refl
given-flow draft SrcIp part next = refl
given-flow draft DstIp part next = refl
given-flow draft Tos part next = refl
given-flow draft TrafficClass part next = refl
given-flow draft L4Proto part next = refl
given-flow draft SrcPort part next = refl
given-flow draft DstPort part next = refl

-- the value, and then the mask
value-word : (pairs : ℕ) (draft : Draft) (field : SpecField) (value : ℕ) → value < form_range (form_of draft.flow field) → read_word pairs (with_awaits draft (Value (key.SpecField field))) (value_text draft.flow field value) ≡ Ok (given draft field (unmasked value) (Mark field))
unfolding read_word with_value_word
value-word pairs draft field value small =
    let before = with_awaits draft (Value (key.SpecField field)) in
    ap (and_then (λ read. Ok (with_value before field read))) (value-read draft.flow field value small) ∙ ap Ok (value-given draft field value)

mark-word : (pairs : ℕ) (draft : Draft) (field : SpecField) (part : Part) → read_word pairs (given draft field part (Mark field)) (codes "m") ≡ Ok (given draft field part (Mask field))
unfolding read_word
mark-word pairs draft field part = refl

mask-word : (pairs : ℕ) (draft : Draft) (field : SpecField) (value mask : ℕ) → mask < form_range (form_of draft.flow field) → read_word pairs (given draft field (unmasked value) (Mask field)) (value_text draft.flow field mask) ≡ Ok (given draft field (record { value = value; skip = mask }) OptionWord)
unfolding read_word with_mask_word
mask-word pairs draft field value mask small =
    let before = given draft field (unmasked value) (Mask field) in
    let text = value_text draft.flow field mask in
    ap (λ flow. and_then (λ read. Ok (with_mask before field read)) (field_value (form_of flow field) text)) (given-flow draft field (unmasked value) (Mask field)) ∙ (ap (and_then (λ read. Ok (with_mask before field read))) (value-read draft.flow field mask small) ∙ ap Ok (mask-given draft field value mask))

-- what may come after a part
abbrev pub after_part : SpecField → ℕ → Awaits
after_part field mask = if mask == 0 then Mark field else OptionWord

mask-read : (pairs : ℕ) (draft : Draft) (field : SpecField) (value mask : ℕ) (none : Bool) → eqb mask 0 ≡ none → mask < form_range (form_of draft.flow field) → read_options pairs (given draft field (unmasked value) (Mark field)) (if none then [] else codes "m" ∷ value_text draft.flow field mask ∷ []) ≡ Ok (given draft field (record { value = value; skip = mask }) (if none then Mark field else OptionWord))
mask-read pairs draft field value mask true is small =
    ap (λ skip. Ok (given draft field (record { value = value; skip = skip }) (Mark field))) (sym (eqb-true mask 0 is))
mask-read pairs draft field value mask false is small =
    let before = given draft field (unmasked value) (Mark field) in
    let has_value = given draft field (unmasked value) (Mask field) in
    let after = given draft field (record { value = value; skip = mask }) OptionWord in
    let text = value_text draft.flow field mask in
    options-step pairs before has_value (codes "m") (text ∷ []) (mark-word pairs draft field (unmasked value)) ∙ options-step pairs has_value after text [] (mask-word pairs draft field value mask small)

-- the words of a field that is given
part-read : (pairs : ℕ) (draft : Draft) (field : SpecField) (part : Part) → is_ready draft.awaits ≡ true → has_field draft.flow field ≡ true → part_of draft field ≡ None → part.value < form_range (form_of draft.flow field) → part.skip < form_range (form_of draft.flow field) → read_options pairs draft (part_words draft.flow field part) ≡ Ok (with_awaits (with_part draft field (Some part)) (after_part field part.skip))
part-read pairs draft field part ready within new value skip =
    let text = value_text draft.flow field part.value in
    let mask = mask_words draft.flow field part.skip in
    let wanted = with_awaits draft (Value (key.SpecField field)) in
    let name : read_word pairs draft (field_name field) ≡ Ok wanted = ready-word pairs draft (field_name field) (key.SpecField field) ready (name-other field) (name-key field) ∙ with_option-field draft field within new in
    options-step pairs draft wanted (field_name field) (text ∷ mask) name ∙ (options-step pairs wanted (given draft field (unmasked part.value) (Mark field)) text mask (value-word pairs draft field part.value value) ∙ mask-read pairs draft field part.value part.skip (eqb part.skip 0) refl skip)

-- what may come after a field that is given or not, and the draft then
abbrev pub after_given : SpecField → Option Part → Awaits → Awaits
after_given field None before = before
after_given field (Some part) before = after_part field part.skip

abbrev pub with_given : Draft → SpecField → Option Part → Draft
with_given draft field part = with_awaits (with_part draft field part) (after_given field part draft.awaits)

-- a field that is given or not
none-given : (draft : Draft) (field : SpecField) → part_of draft field ≡ None → draft ≡ with_given draft field None
none-given draft SrcMac new = ap (λ part. record draft { src = part }) new
none-given draft DstMac new = ap (λ part. record draft { dst = part }) new
none-given draft EtherType new = ap (λ part. record draft { proto = part }) new
none-given draft SrcIp new = ap (λ part. record draft { src = part }) new
none-given draft DstIp new = ap (λ part. record draft { dst = part }) new
none-given draft Tos new = ap (λ part. record draft { class = part }) new
none-given draft TrafficClass new = ap (λ part. record draft { class = part }) new
none-given draft L4Proto new = ap (λ part. record draft { proto = part }) new
none-given draft SrcPort new = ap (λ part. record draft { src_port = part }) new
none-given draft DstPort new = ap (λ part. record draft { dst_port = part }) new

given-read : (pairs : ℕ) (draft : Draft) (field : SpecField) (part : Option Part) → is_ready draft.awaits ≡ true → has_field draft.flow field ≡ true → part_of draft field ≡ None → IsSpelledIn (Some (form_of draft.flow field)) part → read_options pairs draft (given_words draft.flow field part) ≡ Ok (with_given draft field part)
given-read pairs draft field None ready within new spelled = ap Ok (none-given draft field new)
given-read pairs draft field (Some part) ready within new spelled = part-read pairs draft field part ready within new spelled.0 spelled.1

-- the next option may follow
part-ready : (field : SpecField) (none : Bool) → is_ready (if none then Mark field else OptionWord) ≡ true
part-ready field true = refl
part-ready field false = refl

given-ready : (draft : Draft) (field : SpecField) (part : Option Part) → is_ready draft.awaits ≡ true → is_ready (with_given draft field part).awaits ≡ true
given-ready draft field None ready = ready
given-ready draft field (Some part) ready = part-ready field (eqb part.skip 0)

-- the draft after some of a spec's fields
abbrev pub with_fields : Spec → Draft → List SpecField → Draft
with_fields spec draft [] = draft
with_fields spec draft (field ∷ fields) = with_fields spec (with_given draft field (spec_part spec field)) fields

-- each of these fields is one of the flow, was not given before, and is spelled in its form
abbrev pub AreNew : Spec → Draft → List SpecField → Type 0
AreNew spec draft [] = Unit {0}
AreNew spec draft (field ∷ fields) =
    (draft.flow ≡ spec.flow) × (has_field draft.flow field ≡ true) × (part_of draft field ≡ None) × IsSpelledIn (Some (form_of draft.flow field)) (spec_part spec field) × AreNew spec (with_given draft field (spec_part spec field)) fields

-- the words of these fields
pub fields-read : (pairs : ℕ) (spec : Spec) (draft : Draft) (fields : List SpecField) → is_ready draft.awaits ≡ true → AreNew spec draft fields → read_options pairs draft (field_words spec fields) ≡ Ok (with_fields spec draft fields)
fields-read pairs spec draft [] ready new = refl
fields-read pairs spec draft (field ∷ fields) ready new =
    let part = spec_part spec field in
    let next = with_given draft field part in
    let first : read_options pairs draft (given_words spec.flow field part) ≡ Ok next = ap (λ flow. read_options pairs draft (given_words flow field part)) (sym new.0) ∙ given-read pairs draft field part ready new.1 new.2 new.3 in
    options-append pairs draft (given_words spec.flow field part) (field_words spec fields) ∙ (ap (and_then (λ n. read_options pairs n (field_words spec fields))) first ∙ fields-read pairs spec next fields (given-ready draft field part ready) new.4)

pub fields-ready : (spec : Spec) (draft : Draft) (fields : List SpecField) → is_ready draft.awaits ≡ true → is_ready (with_fields spec draft fields).awaits ≡ true
fields-ready spec draft [] ready = ready
fields-ready spec draft (field ∷ fields) ready =
    let part = spec_part spec field in
    fields-ready spec (with_given draft field part) fields (given-ready draft field part ready)
