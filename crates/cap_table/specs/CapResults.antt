-- What a device tells of its capabilities: which it has, and the bytes of each (Virtio 1.4 draft, "Device
-- capabilities", what the capability id list query and the device capability get give; linux/virtio_net_ff.h). The
-- sizes and places of all fields are this project's own.
use Rattle.std.specs.Prelude.{ℕ, ◌+◌, ◌*◌, ◌^◌, ◌%◌, Bool, ◌||◌, ◌==◌, if◌then◌else◌, List, [], ◌∷◌, ◌++◌, length, map, Option, Some, None}
use Rattle.std.specs.List.{flat_map, sum_by, range_with_len}
use Rattle.std.specs.Int.{w8}
use Rattle.arrayvec.specs.ArrayVec.{ArrayVec}
use Rattle.ff_headers.specs.declared.limits.Limits.{Limits}
use Rattle.ff_headers.specs.SelectorParts.{SelectorParts}
use Rattle.admin_wire.specs.Codes.{limits_cap, selectors_cap, actions_cap, drop_action, queue_action}
use Rattle.admin_wire.specs.Fields.{Field, number, reserved, written}
use Rattle.admin_wire.specs.Layouts.{limits_fields, selector_fields, actions_fields}
use Rattle.cap_table.specs.Caps.{CapsParts}

-- ---- the bitmap of capability ids

-- the device has a capability with this id
abbrev pub is_cap : ℕ → Bool
is_cap id = (id == limits_cap) || (id == selectors_cap) || (id == actions_cap)

-- the bit of an id in a word, counted from the word's first id
abbrev pub cap_bit : ℕ → ℕ → ℕ
cap_bit first bit = if is_cap (first + bit) then 2 ^ bit else 0

-- word k has the bits of the ids 64 k to 64 k + 63
abbrev pub cap_word : ℕ → ℕ
cap_word k = sum_by (cap_bit (64 * k)) (range_with_len 0 64)

-- how many words of the bitmap are told
abbrev pub list_word_count : ℕ
list_word_count = 33

-- the bitmap, word for word
abbrev pub list_words : List ℕ
list_words = map cap_word (range_with_len 0 list_word_count)

-- ---- the bytes of a capability

-- the limits, and two reserved bytes
abbrev pub limits_result : Limits → List ℕ
limits_result limits = written (limits_fields limits ++ reserved 2 ∷ [])

-- a selector with PARTIAL_MASK, its lowest flag bit, as its only flag
abbrev pub with_one_flag : SelectorParts → SelectorParts
with_one_flag selector = record selector { flags = selector.flags % 2 }

-- the fields of a selector that is offered
abbrev pub offered_fields : SelectorParts → List Field
offered_fields selector = selector_fields (with_one_flag selector)

-- count, seven reserved bytes, and the selectors
abbrev pub selectors_result : List SelectorParts → List ℕ
selectors_result selectors =
    written (number w8 (length selectors) ∷ reserved 7 ∷ flat_map offered_fields selectors)

-- both actions, drop before queue
abbrev pub actions_result : List ℕ
actions_result = written (actions_fields (drop_action ∷ queue_action ∷ []))

-- the bytes of the capability with this id, if there is one
unfoldable pub cap_result : CapsParts → ℕ → Option (ArrayVec ℕ)
cap_result device id =
    if id == limits_cap then Some (record { items = limits_result device.limits })
    else (if id == selectors_cap then Some (record { items = selectors_result device.selectors })
    else (if id == actions_cap then Some (record { items = actions_result }) else None))
