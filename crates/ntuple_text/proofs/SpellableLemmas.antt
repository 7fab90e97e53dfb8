-- What is read of a line's options is what a line can spell.
use Rattle.std.proofs.Common.{◌≡◌, ℕ, ◌<◌, Bool, true, List, [], ◌∷◌, length, Option, Some, None, option_map, IfSome, Ok, Err, IfOk, subst, is_some}
use Rattle.std.specs.Prelude.{⊤, codes}
use Rattle.std.specs.Str.{bytes_eq}
use Rattle.ntuple_text.specs.Drafts.{with_awaits, draft_of, with_option, with_mark_word, with_mask_word, with_option_word, unless_stood, part_of, read_next, read_options, read_word, with_skip, with_value_word, with_action, with_loc, with_mask, with_part, with_value}
use Rattle.ntuple_text.specs.Keys.{flow_of, form_of, has_field, key_of}
use Rattle.ntuple_text.specs.SpecTexts.{form_range}
use Rattle.ntuple_text.specs.Spellable.{AreSpelled, IsActionOf, IsSpellable, IsSpelledIn}
use Rattle.ntuple_text.specs.TableLines.{spec_with_action, spec_at_end, spec_if_complete, flow_spec, spec_for_location, location_or_free, spec_of}
use Rattle.ntuple_text.specs.TableMaps.{TableMap, last_free}
use Rattle.ntuple_text.specs.Values.{action_value, location_value, queue_value, field_value}
use Rattle.ntuple_text.specs.declared.draft.Awaits.{Awaits}
use Rattle.ntuple_text.specs.declared.draft.Awaits.TheVariants.{OptionWord, Value, Mark, Mask}
use Rattle.ntuple_text.specs.declared.draft.Draft.{Draft}
use Rattle.ntuple_text.specs.declared.error.Fault.TheVariants.{NotInFlow, Twice}
use Rattle.ntuple_text.specs.declared.key.SpecField.{SpecField}
use Rattle.ntuple_text.specs.declared.key.SpecField.TheVariants.{SrcMac, DstMac, EtherType, SrcIp, DstIp, Tos, TrafficClass, L4Proto, SrcPort, DstPort}
use Rattle.ntuple_text.specs.declared.key.FieldForm.{FieldForm}
use Rattle.ntuple_text.specs.declared.key.OptionKey.{OptionKey}
use Rattle.ntuple_text.specs.declared.key.OptionKey.TheVariants as key
use Rattle.ntuple_text.specs.declared.spec.Flow.{Flow}
use Rattle.ntuple_text.specs.declared.spec.Part.{Part}
use Rattle.ntuple_text.specs.declared.spec.TableDo.{TableDo}
use Rattle.ntuple_text.proofs.RangeLemmas.{action-below, location-below, queue-below, value-in_range}
use Rattle.ntuple_text.proofs.SlotLemmas.{in-slot, range-some, with_skip-spelled, slot_form, slot_form-is}
use Rattle.ntuple_text.proofs.StepLemmas.{ok-if, ok-then}
use Rattle.ntuple_text.proofs.TableLemmas.{last_free-below}

-- an option is about a field of the flow, or about no field
abbrev pub IsKeyOf : Flow → OptionKey → Type 0
IsKeyOf flow (key.SpecField field) = has_field flow field ≡ true
IsKeyOf flow about = ⊤

-- what is awaited is of a field of the flow, or of no field
abbrev pub IsAwaited : Flow → Awaits → Type 0
IsAwaited flow OptionWord = ⊤
IsAwaited flow (Value about) = IsKeyOf flow about
IsAwaited flow (Mark field) = has_field flow field ≡ true
IsAwaited flow (Mask field) = has_field flow field ≡ true

-- the parts of a draft are such as the flow's fields spell
abbrev pub PartsAreSpelled : Draft → Type 0
PartsAreSpelled draft = AreSpelled draft.flow draft.src draft.dst draft.proto draft.class draft.src_port draft.dst_port

-- the options of a line so far are such as a line can spell
pub record IsDraft (pairs : ℕ) (draft : Draft) : Type 0 where
  pub parts : PartsAreSpelled draft
  pub action : IfSome draft.action (IsActionOf pairs)
  pub loc : IfSome draft.loc (λ loc. loc < 1024)
  pub awaits : IsAwaited draft.flow draft.awaits

-- a part in the place of another
part-spelled : (draft : Draft) (field : SpecField) → PartsAreSpelled draft → IsSpelledIn (slot_form draft.flow field) (part_of draft field)
part-spelled draft SrcMac h = h.src
part-spelled draft DstMac h = h.dst
part-spelled draft EtherType h = h.proto
part-spelled draft SrcIp h = h.src
part-spelled draft DstIp h = h.dst
part-spelled draft Tos h = h.class
part-spelled draft TrafficClass h = h.class
part-spelled draft L4Proto h = h.proto
part-spelled draft SrcPort h = h.src_port
part-spelled draft DstPort h = h.dst_port

with_part-keeps : (pairs : ℕ) (draft : Draft) (field : SpecField) (part : Option Part) (next : Awaits) → IsDraft pairs draft → IsSpelledIn (slot_form draft.flow field) part → IsAwaited draft.flow next → IsDraft pairs (with_awaits (with_part draft field part) next)
with_part-keeps pairs draft SrcMac part next h new awaited = record { parts = record { src = new; dst = h.parts.dst; proto = h.parts.proto; class = h.parts.class; src_port = h.parts.src_port; dst_port = h.parts.dst_port }; action = h.action; loc = h.loc; awaits = awaited }
with_part-keeps pairs draft DstMac part next h new awaited = record { parts = record { src = h.parts.src; dst = new; proto = h.parts.proto; class = h.parts.class; src_port = h.parts.src_port; dst_port = h.parts.dst_port }; action = h.action; loc = h.loc; awaits = awaited }
with_part-keeps pairs draft EtherType part next h new awaited = record { parts = record { src = h.parts.src; dst = h.parts.dst; proto = new; class = h.parts.class; src_port = h.parts.src_port; dst_port = h.parts.dst_port }; action = h.action; loc = h.loc; awaits = awaited }
with_part-keeps pairs draft SrcIp part next h new awaited = record { parts = record { src = new; dst = h.parts.dst; proto = h.parts.proto; class = h.parts.class; src_port = h.parts.src_port; dst_port = h.parts.dst_port }; action = h.action; loc = h.loc; awaits = awaited }
with_part-keeps pairs draft DstIp part next h new awaited = record { parts = record { src = h.parts.src; dst = new; proto = h.parts.proto; class = h.parts.class; src_port = h.parts.src_port; dst_port = h.parts.dst_port }; action = h.action; loc = h.loc; awaits = awaited }
with_part-keeps pairs draft Tos part next h new awaited = record { parts = record { src = h.parts.src; dst = h.parts.dst; proto = h.parts.proto; class = new; src_port = h.parts.src_port; dst_port = h.parts.dst_port }; action = h.action; loc = h.loc; awaits = awaited }
with_part-keeps pairs draft TrafficClass part next h new awaited = record { parts = record { src = h.parts.src; dst = h.parts.dst; proto = h.parts.proto; class = new; src_port = h.parts.src_port; dst_port = h.parts.dst_port }; action = h.action; loc = h.loc; awaits = awaited }
with_part-keeps pairs draft L4Proto part next h new awaited = record { parts = record { src = h.parts.src; dst = h.parts.dst; proto = new; class = h.parts.class; src_port = h.parts.src_port; dst_port = h.parts.dst_port }; action = h.action; loc = h.loc; awaits = awaited }
with_part-keeps pairs draft SrcPort part next h new awaited = record { parts = record { src = h.parts.src; dst = h.parts.dst; proto = h.parts.proto; class = h.parts.class; src_port = new; dst_port = h.parts.dst_port }; action = h.action; loc = h.loc; awaits = awaited }
with_part-keeps pairs draft DstPort part next h new awaited = record { parts = record { src = h.parts.src; dst = h.parts.dst; proto = h.parts.proto; class = h.parts.class; src_port = h.parts.src_port; dst_port = new }; action = h.action; loc = h.loc; awaits = awaited }

-- another word is awaited, or none was read yet
with_awaits-keeps : (pairs : ℕ) (draft : Draft) (next : Awaits) → IsDraft pairs draft → IsAwaited draft.flow next → IsDraft pairs (with_awaits draft next)
with_awaits-keeps pairs draft next h awaited = record { parts = h.parts; action = h.action; loc = h.loc; awaits = awaited }

draft_of-is : (pairs : ℕ) (flow : Flow) → IsDraft pairs (draft_of flow)
draft_of-is pairs flow = record { parts = record { src = tt; dst = tt; proto = tt; class = tt; src_port = tt; dst_port = tt }; action = tt; loc = tt; awaits = tt }

-- the word of an option
unless_stood-keeps : (pairs : ℕ) (draft : Draft) (stood : Bool) (about : OptionKey) → IsDraft pairs draft → IsKeyOf draft.flow about → IfOk (unless_stood draft stood about) (IsDraft pairs)
unless_stood-keeps pairs draft stood about h of =
    ok-if (IsDraft pairs) stood (Err Twice) (Ok (with_awaits draft (Value about))) (λ twice. tt) (λ first. with_awaits-keeps pairs draft (Value about) h of)

with_option-keeps : (pairs : ℕ) (draft : Draft) (about : OptionKey) → IsDraft pairs draft → IfOk (with_option draft about) (IsDraft pairs)
unfolding with_option
with_option-keeps pairs draft (key.SpecField field) h =
    ok-if (IsDraft pairs) (has_field draft.flow field) (unless_stood draft (is_some (part_of draft field)) (key.SpecField field)) (Err NotInFlow)
    (λ has. unless_stood-keeps pairs draft (is_some (part_of draft field)) (key.SpecField field) h has) (λ other. tt)
with_option-keeps pairs draft key.Action h = unless_stood-keeps pairs draft (is_some draft.action) key.Action h tt
with_option-keeps pairs draft key.Queue h = unless_stood-keeps pairs draft (is_some draft.action) key.Queue h tt
with_option-keeps pairs draft key.Loc h = unless_stood-keeps pairs draft (is_some draft.loc) key.Loc h tt

with_option_word-keeps : (pairs : ℕ) (draft : Draft) (about : Option OptionKey) → IsDraft pairs draft → IfOk (with_option_word draft about) (IsDraft pairs)
with_option_word-keeps pairs draft None h = tt
with_option_word-keeps pairs draft (Some about) h = with_option-keeps pairs draft about h

-- the values of options
action-keeps : (pairs : ℕ) (draft : Draft) (action : TableDo) → IsDraft pairs draft → IsActionOf pairs action → IsDraft pairs (with_action draft action)
action-keeps pairs draft action h below = record { parts = h.parts; action = below; loc = h.loc; awaits = tt }

loc-keeps : (pairs : ℕ) (draft : Draft) (loc : ℕ) → IsDraft pairs draft → loc < 1024 → IsDraft pairs (with_loc draft loc)
loc-keeps pairs draft loc h below = record { parts = h.parts; action = h.action; loc = below; awaits = tt }

with_value_word-keeps : (pairs : ℕ) (draft : Draft) (about : OptionKey) (word : List ℕ) → IsDraft pairs draft → IsKeyOf draft.flow about → IfOk (with_value_word pairs draft about word) (IsDraft pairs)
unfolding with_value_word
with_value_word-keeps pairs draft (key.SpecField field) word h has =
    let form = form_of draft.flow field in
    ok-then (λ v. v < form_range form) (IsDraft pairs) (λ value. Ok (with_value draft field value)) (field_value form word) (value-in_range form word)
    (λ v small. let part : Part = record { value = v; skip = 0 } in with_part-keeps pairs draft field (Some part) (Mark field) h (in-slot draft.flow field (Some part) has (small, range-some form)) has)
with_value_word-keeps pairs draft key.Action word h of =
    ok-then (IsActionOf pairs) (IsDraft pairs) (λ action. Ok (with_action draft action)) (action_value pairs word) (action-below pairs word) (λ action below. action-keeps pairs draft action h below)
with_value_word-keeps pairs draft key.Queue word h of =
    ok-then (IsActionOf pairs) (IsDraft pairs) (λ action. Ok (with_action draft action)) (queue_value pairs word) (queue-below pairs word) (λ action below. action-keeps pairs draft action h below)
with_value_word-keeps pairs draft key.Loc word h of =
    ok-then (λ loc. loc < 1024) (IsDraft pairs) (λ loc. Ok (with_loc draft loc)) (location_value word) (location-below word) (λ loc below. loc-keeps pairs draft loc h below)

-- the mask of a field, and the word `m` before it
with_mask_word-spelled : (draft : Draft) (field : SpecField) (mask : ℕ) → PartsAreSpelled draft → has_field draft.flow field ≡ true → mask < form_range (form_of draft.flow field) → IsSpelledIn (slot_form draft.flow field) (option_map (with_skip mask) (part_of draft field))
with_mask_word-spelled draft field mask h has small =
    let part = part_of draft field in
    let P : Option FieldForm → Type 0 = λ form. IsSpelledIn form part in
    let spelled = subst P (slot_form-is draft.flow field has) (part-spelled draft field h) in
    in-slot draft.flow field (option_map (with_skip mask) part) has (with_skip-spelled (form_of draft.flow field) part mask small spelled)

with_mask_word-keeps : (pairs : ℕ) (draft : Draft) (field : SpecField) (word : List ℕ) → IsDraft pairs draft → has_field draft.flow field ≡ true → IfOk (with_mask_word draft field word) (IsDraft pairs)
unfolding with_mask_word
with_mask_word-keeps pairs draft field word h has =
    let form = form_of draft.flow field in
    ok-then (λ v. v < form_range form) (IsDraft pairs) (λ mask. Ok (with_mask draft field mask)) (field_value form word) (value-in_range form word)
    (λ mask small. with_part-keeps pairs draft field (option_map (with_skip mask) (part_of draft field)) OptionWord h (with_mask_word-spelled draft field mask h.parts has small) tt)

with_mark_word-keeps : (pairs : ℕ) (draft : Draft) (field : SpecField) (word : List ℕ) → IsDraft pairs draft → has_field draft.flow field ≡ true → IfOk (with_mark_word draft field word) (IsDraft pairs)
with_mark_word-keeps pairs draft field word h has =
    ok-if (IsDraft pairs) (bytes_eq word (codes "m")) (Ok (with_awaits draft (Mask field))) (with_option_word draft (key_of word))
    (λ mark. with_awaits-keeps pairs draft (Mask field) h has) (λ other. with_option_word-keeps pairs draft (key_of word) h)

-- each word, and all of them
next-keeps : (pairs : ℕ) (draft : Draft) (word : List ℕ) (awaits : Awaits) → IsDraft pairs draft → IsAwaited draft.flow awaits → IfOk (read_next pairs draft word awaits) (IsDraft pairs)
next-keeps pairs draft word OptionWord h awaited = with_option_word-keeps pairs draft (key_of word) h
next-keeps pairs draft word (Value about) h awaited = with_value_word-keeps pairs draft about word h awaited
next-keeps pairs draft word (Mark field) h awaited = with_mark_word-keeps pairs draft field word h awaited
next-keeps pairs draft word (Mask field) h awaited = with_mask_word-keeps pairs draft field word h awaited

word-keeps : (pairs : ℕ) (draft : Draft) (word : List ℕ) → IsDraft pairs draft → IfOk (read_word pairs draft word) (IsDraft pairs)
unfolding read_word
word-keeps pairs draft word h = next-keeps pairs draft word draft.awaits h h.awaits

pub options-keep : (pairs : ℕ) (draft : Draft) (words : List (List ℕ)) → IsDraft pairs draft → IfOk (read_options pairs draft words) (IsDraft pairs)
options-keep pairs draft [] h = h
options-keep pairs draft (word ∷ words) h =
    ok-then (IsDraft pairs) (IsDraft pairs) (λ next. read_options pairs next words) (read_word pairs draft word) (word-keeps pairs draft word h) (λ next kept. options-keep pairs next words kept)

-- the end of a line
spec_for_location-spellable : (pairs : ℕ) (draft : Draft) (action : TableDo) (place : Option ℕ) → IsDraft pairs draft → IsActionOf pairs action → IfSome place (λ loc. loc < 1024) → IfOk (spec_for_location draft action place) (IsSpellable pairs)
spec_for_location-spellable pairs draft action None h below inside = tt
spec_for_location-spellable pairs draft action (Some loc) h below inside = record { parts = h.parts; action = below; loc = inside }

place-below : (table : TableMap) (loc : Option ℕ) → length table.slots ≡ 1024 → IfSome loc (λ loc. loc < 1024) → IfSome (location_or_free table loc) (λ loc. loc < 1024)
place-below table (Some loc) size below = below
place-below table None size below = let P : ℕ → Type 0 = λ count. IfSome (last_free table.slots) (λ place. place < count) in subst P size (last_free-below table.slots)

spec_with_action-spellable : (table : TableMap) (draft : Draft) (action : Option TableDo) → length table.slots ≡ 1024 → IsDraft table.pairs draft → IfSome action (IsActionOf table.pairs) → IfOk (spec_with_action table draft action) (IsSpellable table.pairs)
spec_with_action-spellable table draft None size h below = tt
spec_with_action-spellable table draft (Some action) size h below =
    spec_for_location-spellable table.pairs draft action (location_or_free table draft.loc) h below (place-below table draft.loc size h.loc)

spec_at_end-spellable : (table : TableMap) (draft : Draft) (awaits : Awaits) → length table.slots ≡ 1024 → IsDraft table.pairs draft → IfOk (spec_if_complete table draft awaits) (IsSpellable table.pairs)
spec_at_end-spellable table draft OptionWord size h = spec_with_action-spellable table draft draft.action size h h.action
spec_at_end-spellable table draft (Value about) size h = tt
spec_at_end-spellable table draft (Mark field) size h = spec_with_action-spellable table draft draft.action size h h.action
spec_at_end-spellable table draft (Mask field) size h = tt

flow_spec-spellable : (table : TableMap) (options : List (List ℕ)) (flow : Option Flow) → length table.slots ≡ 1024 → IfOk (flow_spec table options flow) (IsSpellable table.pairs)
unfolding spec_at_end
flow_spec-spellable table options None size = tt
flow_spec-spellable table options (Some flow) size =
    ok-then (IsDraft table.pairs) (IsSpellable table.pairs) (spec_at_end table) (read_options table.pairs (draft_of flow) options) (options-keep table.pairs (draft_of flow) options (draft_of-is table.pairs flow)) (λ draft kept. spec_at_end-spellable table draft draft.awaits size kept)

pub spec_of-spellable : (table : TableMap) (words : List (List ℕ)) → length table.slots ≡ 1024 → IfOk (spec_of table words) (IsSpellable table.pairs)
unfolding spec_of
spec_of-spellable table [] size = tt
spec_of-spellable table (flow ∷ options) size = flow_spec-spellable table options (flow_of flow) size
