-- Verdicts computed from the definitions: commands over states that a script can't make yet.
use Rattle.std.proofs.Common.{◌≡◌, ℕ, List, [], ◌∷◌, ◌++◌, replicate, refl}
use Rattle.ff_headers.specs.declared.kind.Kind.TheVariants.{Eth}
use Rattle.ff_headers.specs.declared.limits.Limits.{Limits}
use Rattle.ff_headers.specs.SelectorParts.{selector_with}
use Rattle.ff_headers.specs.Fields.{is_allowed}
use Rattle.ff_headers.specs.Shapes.{shape_fault}
use Rattle.byte_numbers.specs.Numbers.{le16_at, le32_at, le64_at}
use Rattle.admin_wire.specs.Lists.{whole_entry, entries_of, selector_of, raw_list, list_of}
use Rattle.admin_wire.specs.Objects.{head_of, group_of, classifier_of, object_of, head_and_object}
use Rattle.admin_wire.specs.Headers.{command_header, opcode_of}
use Rattle.admin_wire.specs.Wire.{data_of, command_of}
use Rattle.ff_headers.specs.Objects.{no_objects}
use Rattle.cap_table.specs.Caps.{CapsParts, DriverParts, unset, same_as}
use Rattle.cap_table.specs.States.{DeviceState, all_opcodes, first_opcodes}
use Rattle.cap_table.specs.Answers.{answer_of}

limits : Limits
limits = record { groups = 2; classifiers = 4; rules = 8; per_group = 8; last_priority = 15; selectors = 3 }

-- twelve bytes that aren't compared, and the type of an Ethernet header
type_mask : ℕ → ℕ → List ℕ
type_mask high low = replicate 12 0 ++ high ∷ low ∷ []

-- a device with one selector, of the whole Ethernet type
caps : CapsParts
caps = record { pairs = 4; limits = limits; selectors = selector_with Eth 0 (type_mask 255 255) ∷ [] }

-- its state with this driver and these opcodes in use, and no object
state : DriverParts → ℕ → DeviceState
state driver in_use = record { caps = caps; in_use = in_use; driver = driver; objects = no_objects }

-- the header of a create, and a head with flags 0
header : List ℕ
header = 10 ∷ replicate 23 0

head : ℕ → ℕ → List ℕ
head type_low id = type_low ∷ 2 ∷ 0 ∷ 0 ∷ id ∷ replicate 11 0

-- the create of group 1 with priority 5, and of classifier 7 with one Ethernet selector
group : List ℕ
group = header ++ (head 0 1 ++ 5 ∷ 0 ∷ [])

classifier : List ℕ → List ℕ
classifier mask = header ++ (head 1 7 ++ (1 ∷ replicate 7 0 ++ (1 ∷ 0 ∷ 0 ∷ 0 ∷ 14 ∷ 0 ∷ 0 ∷ 0 ∷ mask)))

-- the status and the qualifier of the answer
abbrev answered : DeviceState → List ℕ → ℕ → ℕ → Type 0
answered state bytes status qualifier =
    let answer = answer_of state bytes in (answer.reply.status ≡ status) × (answer.reply.qualifier ≡ qualifier)

-- the type as a whole may be asked for, and half of it may not
whole_type : answered (state (same_as caps) all_opcodes) (classifier (type_mask 255 255)) 0 0
unfolding limits type_mask caps state header head classifier is_allowed shape_fault le16_at le32_at le64_at whole_entry entries_of selector_of raw_list list_of classifier_of object_of command_header opcode_of head_of head_and_object data_of command_of answer_of
whole_type = (refl, refl)

half_type : answered (state (same_as caps) all_opcodes) (classifier (type_mask 0 255)) 22 3
unfolding limits type_mask caps state header head classifier is_allowed shape_fault le16_at le32_at le64_at whole_entry entries_of selector_of raw_list list_of classifier_of object_of command_header opcode_of head_of head_and_object data_of command_of answer_of
half_type = (refl, refl)

-- a driver that set nothing has no room for a group; where the create isn't in use, that is looked at first
unset_driver : answered (state unset all_opcodes) group 28 6
unfolding limits type_mask caps state header head group is_allowed shape_fault le16_at le32_at le64_at group_of object_of command_header opcode_of head_of head_and_object data_of command_of answer_of
unset_driver = (refl, refl)

unused_opcode : answered (state unset first_opcodes) group 22 2
unfolding limits type_mask caps state header head group is_allowed shape_fault le16_at le32_at le64_at group_of object_of command_header opcode_of head_of head_and_object data_of command_of answer_of
unused_opcode = (refl, refl)

-- a header that is cut is refused before its opcode is looked at
cut_header : answered (state unset first_opcodes) (10 ∷ replicate 22 0) 22 1
unfolding limits type_mask caps state command_header opcode_of command_of answer_of
cut_header = (refl, refl)
