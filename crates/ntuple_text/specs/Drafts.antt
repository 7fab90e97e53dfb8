-- The options of a line, read word by word from the left, up to the first fault.
use Rattle.std.specs.Prelude.{ℕ, Bool, if◌then◌else◌, List, [], ◌∷◌, codes, Result, Ok, Err}
use Rattle.std.specs.Prelude.{Option, Some, None, is_some, option_map}
use Rattle.std.specs.Str.{bytes_eq}
use Rattle.ntuple_text.specs.Keys.{has_field, form_of, key_of}
use Rattle.ntuple_text.specs.Steps.{and_then}
use Rattle.ntuple_text.specs.Values.{action_value, location_value, queue_value, field_value}
use Rattle.ntuple_text.specs.declared.draft.Awaits.{Awaits}
use Rattle.ntuple_text.specs.declared.draft.Awaits.TheVariants.{OptionWord, Value, Mark, Mask}
use Rattle.ntuple_text.specs.declared.draft.Draft.{Draft}
use Rattle.ntuple_text.specs.declared.error.Fault.{Fault}
use Rattle.ntuple_text.specs.declared.error.Fault.TheVariants.{Word, NotInFlow, Twice}
use Rattle.ntuple_text.specs.declared.key.SpecField.{SpecField}
use Rattle.ntuple_text.specs.declared.key.SpecField.TheVariants.{SrcMac, DstMac, EtherType, SrcIp, DstIp}
use Rattle.ntuple_text.specs.declared.key.SpecField.TheVariants.{Tos, TrafficClass, L4Proto, SrcPort, DstPort}
use Rattle.ntuple_text.specs.declared.key.OptionKey.{OptionKey}
use Rattle.ntuple_text.specs.declared.key.OptionKey.TheVariants as key
use Rattle.ntuple_text.specs.declared.spec.Flow.{Flow}
use Rattle.ntuple_text.specs.declared.spec.Part.{Part}
use Rattle.ntuple_text.specs.declared.spec.TableDo.{TableDo}

-- before the first option
abbrev pub draft_of : Flow → Draft
draft_of flow =
    record {
      flow = flow;
      src = None;
      dst = None;
      proto = None;
      class = None;
      src_port = None;
      dst_port = None;
      action = None;
      loc = None;
      awaits = OptionWord;
    }

-- the part that stands for a field
abbrev pub part_of : Draft → SpecField → Option Part
part_of draft SrcMac = draft.src
part_of draft DstMac = draft.dst
part_of draft EtherType = draft.proto
part_of draft SrcIp = draft.src
part_of draft DstIp = draft.dst
part_of draft Tos = draft.class
part_of draft TrafficClass = draft.class
part_of draft L4Proto = draft.proto
part_of draft SrcPort = draft.src_port
part_of draft DstPort = draft.dst_port

-- with another part for a field
abbrev pub with_part : Draft → SpecField → Option Part → Draft
with_part draft SrcMac part = record draft { src = part }
with_part draft DstMac part = record draft { dst = part }
with_part draft EtherType part = record draft { proto = part }
with_part draft SrcIp part = record draft { src = part }
with_part draft DstIp part = record draft { dst = part }
with_part draft Tos part = record draft { class = part }
with_part draft TrafficClass part = record draft { class = part }
with_part draft L4Proto part = record draft { proto = part }
with_part draft SrcPort part = record draft { src_port = part }
with_part draft DstPort part = record draft { dst_port = part }

-- as before, but for what the next word may be
abbrev pub with_awaits : Draft → Awaits → Draft
with_awaits draft next = record draft { awaits = next }

-- an option, where it did not stand before
abbrev pub unless_stood : Draft → Bool → OptionKey → Result Draft Fault
unless_stood draft stood about = if stood then Err Twice else Ok (with_awaits draft (Value about))

-- the word of an option was read: a field is one of the flow, and no option comes twice; `action` and `queue` are one
unfoldable pub with_option : Draft → OptionKey → Result Draft Fault
with_option draft (key.SpecField field) =
    if has_field draft.flow field
    then unless_stood draft (is_some (part_of draft field)) (key.SpecField field)
    else Err NotInFlow
with_option draft key.Action = unless_stood draft (is_some draft.action) key.Action
with_option draft key.Queue = unless_stood draft (is_some draft.action) key.Queue
with_option draft key.Loc = unless_stood draft (is_some draft.loc) key.Loc

-- a word where an option may begin
abbrev pub with_option_word : Draft → Option OptionKey → Result Draft Fault
with_option_word draft None = Err Word
with_option_word draft (Some about) = with_option draft about

-- a field's value was read: all its bits are compared, unless a mask follows
abbrev pub with_value : Draft → SpecField → ℕ → Draft
with_value draft field value =
    with_awaits (with_part draft field (Some (record { value = value; skip = 0 }))) (Mark field)

-- with an action, after which an option may begin
abbrev pub with_action : Draft → TableDo → Draft
with_action draft action = record draft { action = Some action; awaits = OptionWord }

-- with a location, after which an option may begin
abbrev pub with_loc : Draft → ℕ → Draft
with_loc draft loc = record draft { loc = Some loc; awaits = OptionWord }

-- the value of an option, for so many queue pairs
unfoldable pub with_value_word : ℕ → Draft → OptionKey → List ℕ → Result Draft Fault
with_value_word pairs draft (key.SpecField field) word =
    and_then (λ value. Ok (with_value draft field value)) (field_value (form_of draft.flow field) word)
with_value_word pairs draft key.Action word =
    and_then (λ action. Ok (with_action draft action)) (action_value pairs word)
with_value_word pairs draft key.Queue word =
    and_then (λ action. Ok (with_action draft action)) (queue_value pairs word)
with_value_word pairs draft key.Loc word = and_then (λ loc. Ok (with_loc draft loc)) (location_value word)

-- the bits of a mask are not compared
abbrev pub with_skip : ℕ → Part → Part
with_skip mask part = record part { skip = mask }

-- with the mask of a field, after which an option may begin
abbrev pub with_mask : Draft → SpecField → ℕ → Draft
with_mask draft field mask =
    with_awaits (with_part draft field (option_map (with_skip mask) (part_of draft field))) OptionWord

-- the mask of a field, spelled as its value
unfoldable pub with_mask_word : Draft → SpecField → List ℕ → Result Draft Fault
with_mask_word draft field word =
    and_then (λ mask. Ok (with_mask draft field mask)) (field_value (form_of draft.flow field) word)

-- a word after a field's value: `m`, or the next option
abbrev pub with_mark_word : Draft → SpecField → List ℕ → Result Draft Fault
with_mark_word draft field word =
    if bytes_eq word (codes "m") then Ok (with_awaits draft (Mask field)) else with_option_word draft (key_of word)

-- one word, by what may come next
abbrev pub read_next : ℕ → Draft → List ℕ → Awaits → Result Draft Fault
read_next pairs draft word OptionWord = with_option_word draft (key_of word)
read_next pairs draft word (Value about) = with_value_word pairs draft about word
read_next pairs draft word (Mark field) = with_mark_word draft field word
read_next pairs draft word (Mask field) = with_mask_word draft field word

-- one more word
unfoldable pub read_word : ℕ → Draft → List ℕ → Result Draft Fault
read_word pairs draft word = read_next pairs draft word draft.awaits

-- the options that words give, after those of the draft
abbrev pub read_options : ℕ → Draft → List (List ℕ) → Result Draft Fault
read_options pairs draft [] = Ok draft
read_options pairs draft (word ∷ words) =
    and_then (λ next. read_options pairs next words) (read_word pairs draft word)
