-- Runs of the machine computed from the definitions: commands with their rooms, and their replies.
use Rattle.std.proofs.Common.{◌≡◌, ℕ, List, [], ◌∷◌, ◌++◌, replicate, refl}
use Rattle.ff_headers.specs.Fields.{is_allowed}
use Rattle.ff_headers.specs.Shapes.{shape_fault}
use Rattle.ff_headers.specs.Changes.{is_sound, with_change_made, step}
use Rattle.byte_numbers.specs.Numbers.{le16_at, le32_at, le64_at}
use Rattle.admin_wire.specs.Lists.{whole_entry, entries_of, selector_of, raw_list, list_of}
use Rattle.admin_wire.specs.Objects.{head_of, bare_head_of, group_of, classifier_of, raw_key, rule_of, object_of, head_and_object}
use Rattle.admin_wire.specs.Capabilities.{limits_of, selectors_data, raw_actions, actions_of, cap_data_of, cap_of}
use Rattle.admin_wire.specs.Headers.{command_header, opcode_of}
use Rattle.admin_wire.specs.Wire.{list_use_of, cap_get_of, query_of, destroy_of, data_of, command_of}
use Rattle.admin_wire.specs.Replies.{whole_reply}
use Rattle.cap_table.specs.Caps.{CapsParts, all_selectors}
use Rattle.cap_table.specs.CapSets.{cap_fault}
use Rattle.cap_table.specs.CapResults.{cap_result}
use Rattle.cap_table.specs.States.{DeviceState, start_state}
use Rattle.cap_table.specs.Answers.{answer_of, verdict_of}
use Rattle.cap_table.specs.Steps.{reply_of, next_state}
use Rattle.cap_table.specs.declared.start.Start.TheVariants.{Ready, Reset}

-- the replies to commands, one after another
replies : DeviceState → List (List ℕ × ℕ) → List (List ℕ)
replies state [] = []
replies state (c ∷ cs) = reply_of state c.0 c.1 ∷ replies (next_state state c.0 c.1) cs

-- four pairs, two groups, four classifiers, eight rules, so many rules in a group, last priority 15, three selectors
caps : ℕ → CapsParts
caps per_group = record {
  pairs = 4;
  limits = record { groups = 2; classifiers = 4; rules = 8; per_group = per_group; last_priority = 15; selectors = 3 };
  selectors = all_selectors;
}

-- a header and data; the head of an object; flags
command : ℕ → List ℕ → List ℕ
command opcode data_bytes = opcode ∷ replicate 23 0 ++ data_bytes

head : ℕ → ℕ → List ℕ
head type_low id = type_low ∷ 2 ∷ 0 ∷ 0 ∷ id ∷ 0 ∷ 0 ∷ 0 ∷ []

flags : List ℕ
flags = replicate 8 0

-- the create (10) or modify (11) of a group, of a classifier of the Ethernet type, and of a rule for IPv4
group : ℕ → ℕ → ℕ → List ℕ × ℕ
group opcode id priority = (command opcode (head 0 id ++ (flags ++ priority ∷ 0 ∷ [])), 8)

classifier : ℕ → ℕ → List ℕ × ℕ
classifier opcode id =
    (command opcode (head 1 id ++ (flags ++ (1 ∷ replicate 7 0 ++ (1 ∷ 0 ∷ 0 ∷ 0 ∷ 14 ∷ 0 ∷ 0 ∷ 0 ∷ replicate 12 0 ++ 255 ∷ 255 ∷ [])))), 8)

rule : ℕ → ℕ → ℕ → ℕ → ℕ → ℕ → List ℕ × ℕ
rule opcode id g c priority vq =
    (command opcode (head 2 id ++ (flags ++ (g ∷ 0 ∷ 0 ∷ 0 ∷ c ∷ 0 ∷ 0 ∷ 0 ∷ priority ∷ 14 ∷ 2 ∷ 0 ∷ vq ∷ 0 ∷ 0 ∷ 0 ∷ replicate 12 0 ++ 8 ∷ 0 ∷ []))), 8)

-- replies
ok : List ℕ
ok = replicate 8 0

refused : ℕ → ℕ → List ℕ
refused status qualifier = status ∷ 0 ∷ qualifier ∷ 0 ∷ 0 ∷ 0 ∷ 0 ∷ 0 ∷ []

told : List ℕ → List ℕ
told result = ok ++ result

-- rules are created and modified: a group that is full of other rules, the rule's own group, a classifier that rules name, a missing rule
modifies : replies (start_state (caps 1) Ready) (group 10 1 5 ∷ group 10 2 6 ∷ classifier 10 7 ∷ rule 10 0 1 7 0 2 ∷ rule 10 1 2 7 0 4 ∷ rule 11 0 2 7 0 2 ∷ rule 11 0 1 7 3 2 ∷ classifier 11 7 ∷ rule 11 5 1 7 0 2 ∷ []) ≡ ok ∷ ok ∷ ok ∷ ok ∷ ok ∷ refused 28 6 ∷ ok ∷ refused 16 1 ∷ refused 6 6 ∷ []
unfolding replies command head flags group classifier rule ok refused told caps le16_at le32_at le64_at shape_fault is_allowed is_sound with_change_made step whole_entry entries_of selector_of raw_list list_of head_of bare_head_of group_of classifier_of raw_key rule_of object_of head_and_object limits_of selectors_data raw_actions actions_of cap_data_of cap_of command_header opcode_of list_use_of cap_get_of query_of destroy_of data_of command_of cap_fault cap_result answer_of verdict_of whole_reply
modifies = refl

-- a classifier that no rule names takes a modify, and a group one to its own priority
unnamed_classifier : replies (start_state (caps 8) Ready) (classifier 10 7 ∷ classifier 11 7 ∷ group 10 1 5 ∷ group 11 1 5 ∷ []) ≡ ok ∷ ok ∷ ok ∷ ok ∷ []
unfolding replies command head flags group classifier rule ok refused told caps le16_at le32_at le64_at shape_fault is_allowed is_sound with_change_made step whole_entry entries_of selector_of raw_list list_of head_of bare_head_of group_of classifier_of raw_key rule_of object_of head_and_object limits_of selectors_data raw_actions actions_of cap_data_of cap_of command_header opcode_of list_use_of cap_get_of query_of destroy_of data_of command_of cap_fault cap_result answer_of verdict_of whole_reply
unnamed_classifier = refl

-- a group that a rule names isn't destroyed; once the rule is gone, it is, and then it is missing
destroys : replies (start_state (caps 8) Ready) (group 10 1 5 ∷ classifier 10 7 ∷ rule 10 9 1 7 0 2 ∷ (command 13 (head 0 1), 8) ∷ (command 13 (head 1 7), 8) ∷ (command 13 (head 2 9), 8) ∷ (command 13 (head 0 1), 8) ∷ (command 13 (head 0 1), 8) ∷ []) ≡ ok ∷ ok ∷ ok ∷ refused 16 1 ∷ refused 16 1 ∷ ok ∷ ok ∷ refused 6 6 ∷ []
unfolding replies command head flags group classifier rule ok refused told caps le16_at le32_at le64_at shape_fault is_allowed is_sound with_change_made step whole_entry entries_of selector_of raw_list list_of head_of bare_head_of group_of classifier_of raw_key rule_of object_of head_and_object limits_of selectors_data raw_actions actions_of cap_data_of cap_of command_header opcode_of list_use_of cap_get_of query_of destroy_of data_of command_of cap_fault cap_result answer_of verdict_of whole_reply
destroys = refl

-- a query gives an object back, cut to the room; reserved bytes are 0
queries : replies (start_state (caps 8) Ready) (group 10 1 5 ∷ classifier 10 7 ∷ rule 10 9 1 7 0 2 ∷ (command 12 (head 0 1 ++ flags), 64) ∷ (command 12 (head 1 7 ++ flags), 12) ∷ (command 12 (head 2 9 ++ flags), 64) ∷ (command 12 (head 2 8 ++ flags), 64) ∷ (command 12 (head 3 9 ++ flags), 64) ∷ (command 12 (head 2 9 ++ 1 ∷ replicate 7 0), 64) ∷ []) ≡ ok ∷ ok ∷ ok ∷ told (5 ∷ 0 ∷ []) ∷ told (1 ∷ 0 ∷ 0 ∷ 0 ∷ []) ∷ told (1 ∷ 0 ∷ 0 ∷ 0 ∷ 7 ∷ 0 ∷ 0 ∷ 0 ∷ 0 ∷ 14 ∷ 2 ∷ 0 ∷ 2 ∷ 0 ∷ 0 ∷ 0 ∷ replicate 12 0 ++ 8 ∷ 0 ∷ []) ∷ refused 6 6 ∷ refused 22 3 ∷ refused 22 3 ∷ []
unfolding replies command head flags group classifier rule ok refused told caps le16_at le32_at le64_at shape_fault is_allowed is_sound with_change_made step whole_entry entries_of selector_of raw_list list_of head_of bare_head_of group_of classifier_of raw_key rule_of object_of head_and_object limits_of selectors_data raw_actions actions_of cap_data_of cap_of command_header opcode_of list_use_of cap_get_of query_of destroy_of data_of command_of cap_fault cap_result answer_of verdict_of whole_reply
queries = refl

-- what the device tells of itself
lists : replies (start_state (caps 8) Ready) ((command 0 [], 16) ∷ (command 7 [], 272) ∷ (command 8 (0 ∷ 8 ∷ replicate 6 0), 28) ∷ (command 8 (3 ∷ 8 ∷ replicate 6 0), 28) ∷ []) ≡ told (131 ∷ 63 ∷ replicate 6 0) ∷ told (replicate 256 0 ++ 7 ∷ replicate 7 0) ∷ told (2 ∷ 0 ∷ 0 ∷ 0 ∷ 4 ∷ 0 ∷ 0 ∷ 0 ∷ 8 ∷ 0 ∷ 0 ∷ 0 ∷ 8 ∷ 0 ∷ 0 ∷ 0 ∷ 15 ∷ 3 ∷ 0 ∷ 0 ∷ []) ∷ refused 22 3 ∷ []
unfolding replies command head flags group classifier rule ok refused told caps le16_at le32_at le64_at shape_fault is_allowed is_sound with_change_made step whole_entry entries_of selector_of raw_list list_of head_of bare_head_of group_of classifier_of raw_key rule_of object_of head_and_object limits_of selectors_data raw_actions actions_of cap_data_of cap_of command_header opcode_of list_use_of cap_get_of query_of destroy_of data_of command_of cap_fault cap_result answer_of verdict_of whole_reply
lists = refl

-- limits up to the device's are set, and the drop alone; rules that queue are then refused, and so is a set once there is an object
sets : replies (start_state (caps 8) Ready) ((command 9 (0 ∷ 8 ∷ replicate 6 0 ++ (2 ∷ 0 ∷ 0 ∷ 0 ∷ 4 ∷ 0 ∷ 0 ∷ 0 ∷ 8 ∷ 0 ∷ 0 ∷ 0 ∷ 8 ∷ 0 ∷ 0 ∷ 0 ∷ 15 ∷ 3 ∷ [])), 8) ∷ (command 9 (0 ∷ 8 ∷ replicate 6 0 ++ (3 ∷ 0 ∷ 0 ∷ 0 ∷ 4 ∷ 0 ∷ 0 ∷ 0 ∷ 8 ∷ 0 ∷ 0 ∷ 0 ∷ 8 ∷ 0 ∷ 0 ∷ 0 ∷ 15 ∷ 3 ∷ [])), 8) ∷ (command 9 (2 ∷ 8 ∷ replicate 6 0 ++ (1 ∷ replicate 7 0 ++ 1 ∷ [])), 8) ∷ group 10 1 5 ∷ classifier 10 7 ∷ rule 10 9 1 7 0 2 ∷ (command 9 (2 ∷ 8 ∷ replicate 6 0 ++ (1 ∷ replicate 7 0 ++ 1 ∷ [])), 8) ∷ []) ≡ ok ∷ refused 22 3 ∷ ok ∷ ok ∷ ok ∷ refused 22 3 ∷ refused 16 1 ∷ []
unfolding replies command head flags group classifier rule ok refused told caps le16_at le32_at le64_at shape_fault is_allowed is_sound with_change_made step whole_entry entries_of selector_of raw_list list_of head_of bare_head_of group_of classifier_of raw_key rule_of object_of head_and_object limits_of selectors_data raw_actions actions_of cap_data_of cap_of command_header opcode_of list_use_of cap_get_of query_of destroy_of data_of command_of cap_fault cap_result answer_of verdict_of whole_reply
sets = refl

-- before any opcode is used only the first two are in use; they stay in use whatever the bitmap, and no other bit may stand in it
uses : replies (start_state (caps 8) Reset) (group 10 1 5 ∷ (command 1 (131 ∷ 63 ∷ replicate 6 0), 8) ∷ group 10 1 5 ∷ (command 1 (0 ∷ 0 ∷ replicate 6 0), 8) ∷ group 10 1 5 ∷ (command 0 [], 16) ∷ (command 1 (4 ∷ 0 ∷ replicate 6 0), 8) ∷ []) ≡ refused 22 2 ∷ ok ∷ refused 28 6 ∷ ok ∷ refused 22 2 ∷ told (131 ∷ 63 ∷ replicate 6 0) ∷ refused 22 3 ∷ []
unfolding replies command head flags group classifier rule ok refused told caps le16_at le32_at le64_at shape_fault is_allowed is_sound with_change_made step whole_entry entries_of selector_of raw_list list_of head_of bare_head_of group_of classifier_of raw_key rule_of object_of head_and_object limits_of selectors_data raw_actions actions_of cap_data_of cap_of command_header opcode_of list_use_of cap_get_of query_of destroy_of data_of command_of cap_fault cap_result answer_of verdict_of whole_reply
uses = refl
