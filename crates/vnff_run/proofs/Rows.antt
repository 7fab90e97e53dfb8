-- Worked rows, computed from the definitions: a script, and what its replay ends with.
use Rattle.std.proofs.Common.{◌≡◌, [], ◌∷◌, codes, Some, refl}
use Prim.Native.String.{String}
use Rattle.std.specs.Fmt.{digits}
use Rattle.vnff_base.specs.Hex.{hex_bytes}
use Rattle.vnff_base.specs.Numbers.{number_of}
use Rattle.vnff_base.specs.Lines.{words_of}
use Rattle.ff_headers.specs.Shapes.{shape_fault}
use Rattle.ff_headers.specs.Matching.{fits, matches}
use Rattle.ff_headers.specs.Places.{rule_matches, first_rule, action_of}
use Rattle.ff_headers.specs.Frames.{headers_of, has_ipv4, names_ip, carries, ip_end, eth_field, ip_field}
use Rattle.ff_headers.specs.Fields.{is_allowed}
use Rattle.ff_headers.specs.Changes.{is_sound, with_change_made, step}
use Rattle.byte_numbers.specs.Numbers.{le16_at, le32_at, le64_at}
use Rattle.admin_wire.specs.Lists.{whole_entry, entries_of, selector_of, raw_list, list_of}
use Rattle.admin_wire.specs.Objects.{head_of, group_of, classifier_of, raw_key, rule_of, object_of, head_and_object}
use Rattle.admin_wire.specs.Headers.{command_header, opcode_of}
use Rattle.admin_wire.specs.Wire.{data_of, command_of}
use Rattle.admin_wire.specs.Replies.{whole_reply}
use Rattle.cap_table.specs.Answers.{answer_of, verdict_of}
use Rattle.cap_table.specs.Steps.{state_after}
use Rattle.vnff_run.specs.DeviceLines.{is_version, start_of, caps_of, device_of}
use Rattle.vnff_run.specs.Grammar.{after_version, device_in, first_selectors, items_of, script_of_lines}
use Rattle.vnff_run.specs.ItemLines.{admin_of, frame_item, item_of}
use Rattle.vnff_run.specs.SelectLines.{is_select, kind_named, flags_named, selector_in_line}
use Rattle.vnff_run.specs.Words.{number_within, bytes_within}
use Rattle.vnff_run.specs.Replay.{action_text, reply_line, frame_line, item_line, line_at, lines_of}
use Rattle.vnff_run.specs.Forms.{word_form}
use Rattle.vnff_run.specs.Inputs.{script_in}
use Rattle.vnff_run.specs.Outcomes.{Outcome, outcome_in, outcome_of, fault_words, refusal_line, refusal_words}

-- the words `replay SCRIPT`, and a shelf that has this text under each name
replay_of : String → Outcome
replay_of text = outcome_of (codes "replay" ∷ codes "a" ∷ []) (λ _. Some (codes text))

replayed : String → Outcome
replayed text = record { status = 0; text = codes text }

-- a text that isn't a script, and one of no bytes
refusal : String → Outcome
refusal text = record { status = 1; text = codes text }

late_selector : replay_of "vnff 1\ndevice 4 2 4 8 8 15 3 ready\nframe ffffffffffff0200000000010800\nselect eth whole 000000000000000000000000ffff\n" ≡ refusal "refused script:4 word\n"
unfolding replay_of refusal word_form script_in outcome_in fault_words refusal_words refusal_line digits hex_bytes number_of words_of number_within bytes_within is_version start_of caps_of device_of admin_of frame_item item_of after_version device_in is_select first_selectors items_of script_of_lines
late_selector = refl

no_bytes : replay_of "" ≡ refusal "refused script:1 version\n"
unfolding replay_of refusal word_form script_in outcome_in fault_words refusal_words refusal_line digits words_of after_version script_of_lines
no_bytes = refl

-- a number out of its range, before commands
four_selectors : replay_of "vnff 1\ndevice 4 2 4 8 8 15 4 ready\nframe ffffffffffff0200000000010800\n" ≡ refusal "refused script:2 number\n"
unfolding replay_of refusal word_form script_in outcome_in fault_words refusal_words refusal_line digits number_of words_of number_within is_version start_of caps_of device_of after_version device_in script_of_lines
four_selectors = refl

-- a group, a classifier and a rule are created, and a frame goes to the rule's queue
one_rule : replay_of "vnff 1\ndevice 4 2 4 8 8 15 3 ready\nadmin 0a0000000000000000000000000000000000000000000000000200000100000000000000000000000500 8\nadmin 0a0000000000000000000000000000000000000000000000010200000700000000000000000000000100000000000000010000000e000000000000000000000000000000ffff 8\nadmin 0a0000000000000000000000000000000000000000000000020200000900000000000000000000000100000007000000000e0200020000000000000000000000000000000800 8\nframe ffffffffffff0200000000010800\n" ≡ replayed "reply 0000000000000000\nreply 0000000000000000\nreply 0000000000000000\nframe queue 1\n"
unfolding replay_of replayed word_form script_in outcome_in digits hex_bytes number_of words_of shape_fault fits matches rule_matches first_rule action_of headers_of has_ipv4 names_ip carries ip_end eth_field ip_field is_allowed is_sound with_change_made step le16_at le32_at le64_at whole_entry entries_of selector_of raw_list list_of group_of classifier_of raw_key rule_of object_of command_header opcode_of head_of head_and_object data_of command_of whole_reply answer_of verdict_of state_after number_within bytes_within is_version start_of caps_of device_of admin_of frame_item item_of after_version device_in is_select first_selectors items_of script_of_lines action_text reply_line frame_line item_line line_at lines_of
one_rule = refl

-- a command of 23 bytes
short_header : replay_of "vnff 1\ndevice 4 2 4 8 8 15 3 ready\nadmin 0a00000000000000000000000000000000000000000000 8\n" ≡ replayed "reply 1600010000000000\n"
unfolding replay_of replayed word_form script_in outcome_in digits hex_bytes number_of words_of shape_fault fits matches rule_matches first_rule action_of headers_of has_ipv4 names_ip carries ip_end eth_field ip_field is_allowed is_sound with_change_made step le16_at le32_at le64_at whole_entry entries_of selector_of raw_list list_of group_of classifier_of raw_key rule_of object_of command_header opcode_of head_of head_and_object data_of command_of whole_reply answer_of verdict_of state_after number_within bytes_within is_version start_of caps_of device_of admin_of frame_item item_of after_version device_in is_select first_selectors items_of script_of_lines action_text reply_line frame_line item_line line_at lines_of
short_header = refl

-- a command whose reply has no room is not carried out
small_room : replay_of "vnff 1\ndevice 4 2 4 8 8 15 3 ready\nadmin 0a0000000000000000000000000000000000000000000000000200000100000000000000000000000500 7\nadmin 0a0000000000000000000000000000000000000000000000000200000100000000000000000000000500 8\n" ≡ replayed "reply -\nreply 0000000000000000\n"
unfolding replay_of replayed word_form script_in outcome_in digits hex_bytes number_of words_of shape_fault fits matches rule_matches first_rule action_of headers_of has_ipv4 names_ip carries ip_end eth_field ip_field is_allowed is_sound with_change_made step le16_at le32_at le64_at whole_entry entries_of selector_of raw_list list_of group_of classifier_of raw_key rule_of object_of command_header opcode_of head_of head_and_object data_of command_of whole_reply answer_of verdict_of state_after number_within bytes_within is_version start_of caps_of device_of admin_of frame_item item_of after_version device_in is_select first_selectors items_of script_of_lines action_text reply_line frame_line item_line line_at lines_of
small_room = refl

-- creates that are refused: a queue that isn't a receive queue's or is past the pairs, a priority above the last, a
-- classifier that isn't held, an id and a priority that are taken, a limit that is reached
refused_creates : replay_of "vnff 1\ndevice 4 2 4 8 8 15 3 ready\nadmin 0a0000000000000000000000000000000000000000000000000200000100000000000000000000000500 8\nadmin 0a0000000000000000000000000000000000000000000000010200000700000000000000000000000100000000000000010000000e000000000000000000000000000000ffff 8\nadmin 0a0000000000000000000000000000000000000000000000020200000900000000000000000000000100000007000000000e0200030000000000000000000000000000000800 8\nadmin 0a0000000000000000000000000000000000000000000000020200000900000000000000000000000100000007000000000e0200080000000000000000000000000000000800 8\nadmin 0a0000000000000000000000000000000000000000000000020200000900000000000000000000000100000007000000100e0200020000000000000000000000000000000800 8\nadmin 0a0000000000000000000000000000000000000000000000020200000900000000000000000000000100000008000000000e0200020000000000000000000000000000000800 8\nadmin 0a0000000000000000000000000000000000000000000000000200000100000000000000000000000500 8\nadmin 0a0000000000000000000000000000000000000000000000000200000200000000000000000000000500 8\nadmin 0a0000000000000000000000000000000000000000000000000200000200000000000000000000000600 8\nadmin 0a0000000000000000000000000000000000000000000000000200000300000000000000000000000700 8\n" ≡ replayed "reply 0000000000000000\nreply 0000000000000000\nreply 1600030000000000\nreply 1600030000000000\nreply 1600030000000000\nreply 0600060000000000\nreply 1100030000000000\nreply 1600030000000000\nreply 0000000000000000\nreply 1c00060000000000\n"
unfolding replay_of replayed word_form script_in outcome_in digits hex_bytes number_of words_of shape_fault fits matches rule_matches first_rule action_of headers_of has_ipv4 names_ip carries ip_end eth_field ip_field is_allowed is_sound with_change_made step le16_at le32_at le64_at whole_entry entries_of selector_of raw_list list_of group_of classifier_of raw_key rule_of object_of command_header opcode_of head_of head_and_object data_of command_of whole_reply answer_of verdict_of state_after number_within bytes_within is_version start_of caps_of device_of admin_of frame_item item_of after_version device_in is_select first_selectors items_of script_of_lines action_text reply_line frame_line item_line line_at lines_of
refused_creates = refl

-- at reset only the commands on lists are in use
reset : replay_of "vnff 1\ndevice 4 2 4 8 8 15 3 reset\nadmin 0a0000000000000000000000000000000000000000000000000200000100000000000000000000000500 8\n" ≡ replayed "reply 1600020000000000\n"
unfolding replay_of replayed word_form script_in outcome_in digits hex_bytes number_of words_of shape_fault fits matches rule_matches first_rule action_of headers_of has_ipv4 names_ip carries ip_end eth_field ip_field is_allowed is_sound with_change_made step le16_at le32_at le64_at whole_entry entries_of selector_of raw_list list_of group_of classifier_of raw_key rule_of object_of command_header opcode_of head_of head_and_object data_of command_of whole_reply answer_of verdict_of state_after number_within bytes_within is_version start_of caps_of device_of admin_of frame_item item_of after_version device_in is_select first_selectors items_of script_of_lines action_text reply_line frame_line item_line line_at lines_of
reset = refl

-- a device that wants the type whole, and masks of the whole type and of half of it
whole_type : replay_of "vnff 1\ndevice 4 2 4 8 8 15 3 ready\nselect eth whole 000000000000000000000000ffff\nadmin 0a0000000000000000000000000000000000000000000000010200000700000000000000000000000100000000000000010000000e000000000000000000000000000000ffff 8\nadmin 0a0000000000000000000000000000000000000000000000010200000800000000000000000000000100000000000000010000000e00000000000000000000000000000000ff 8\n" ≡ replayed "reply 0000000000000000\nreply 1600030000000000\n"
unfolding replay_of replayed word_form script_in outcome_in digits hex_bytes number_of words_of shape_fault fits matches rule_matches first_rule action_of headers_of has_ipv4 names_ip carries ip_end eth_field ip_field is_allowed is_sound with_change_made step le16_at le32_at le64_at whole_entry entries_of selector_of raw_list list_of group_of classifier_of raw_key rule_of object_of command_header opcode_of head_of head_and_object data_of command_of whole_reply answer_of verdict_of state_after number_within bytes_within is_version start_of caps_of device_of admin_of frame_item item_of after_version device_in is_select first_selectors selector_in_line kind_named flags_named items_of script_of_lines action_text reply_line frame_line item_line line_at lines_of
whole_type = refl
