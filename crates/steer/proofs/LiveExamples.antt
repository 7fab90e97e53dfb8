-- A live run at a worked example: a group, a classifier and a rule are created, and the rule sends the frames that match it
-- to queue 1.
use Rattle.std.proofs.Common.{◌≡◌, ℕ, List, [], ◌∷◌, length, codes, refl, arith}
use Rattle.vnff_base.specs.Hex.{pair_bytes}
use Rattle.ff_headers.specs.Shapes.{shape_fault}
use Rattle.ff_headers.specs.Matching.{fits, matches}
use Rattle.ff_headers.specs.Places.{rule_matches, first_rule, action_of}
use Rattle.ff_headers.specs.Frames.{headers_of, has_ipv4, names_ip, carries, ip_end, eth_field, ip_field}
use Rattle.ff_headers.specs.Fields.{is_allowed}
use Rattle.ff_headers.specs.Changes.{after, is_sound, with_change_made, step}
use Rattle.ff_headers.specs.declared.change.Change.TheVariants.{PutGroup}
use Rattle.ff_headers.specs.declared.rule.Action.TheVariants.{Default, Queue}
use Rattle.byte_numbers.specs.Numbers.{le16_at, le32_at, le64_at}
use Rattle.admin_wire.specs.Lists.{whole_entry, entries_of, selector_of, raw_list, list_of}
use Rattle.admin_wire.specs.Objects.{head_of, group_of, classifier_of, raw_key, rule_of, object_of, head_and_object}
use Rattle.admin_wire.specs.Headers.{command_header, opcode_of}
use Rattle.admin_wire.specs.Wire.{data_of, command_of}
use Rattle.admin_wire.specs.Replies.{whole_reply}
use Rattle.cap_table.specs.Answers.{answer_of, verdict_of}
use Rattle.cap_table.specs.Caps.{CapsParts, all_selectors}
use Rattle.cap_table.specs.States.{start_state}
use Rattle.cap_table.specs.declared.start.Start.TheVariants.{Ready}
use Rattle.std.specs.List.{AllZip}
use Rattle.steer.specs.LiveCommands.{no_memory_reply, is_no_memory, changes_made_by, state_left, IsAnswered, AreAnswered, state_behind, changes_made}
use Rattle.steer.specs.LiveRuns.{IsPacketLine, accepted_changes, told_changes}
use Rattle.steer.specs.declared.admin_line.AdminLine.{AdminLine}

caps : CapsParts
caps = record {
  pairs = 4;
  limits = record { groups = 2; classifiers = 4; rules = 8; per_group = 8; last_priority = 15; selectors = 3 };
  selectors = all_selectors;
}

-- with room for a reply that has no result
hex_line : List ℕ → AdminLine
hex_line hex = record { bytes = pair_bytes hex; room = 8 }

-- group 1 of priority 5; classifier 7 over the Ethernet type; rule 9 in both, for the type 0x0800 and queue 1
commands : List AdminLine
commands =
    hex_line (codes "0a0000000000000000000000000000000000000000000000000200000100000000000000000000000500")
    ∷ hex_line (codes "0a0000000000000000000000000000000000000000000000010200000700000000000000000000000100000000000000010000000e000000000000000000000000000000ffff")
    ∷ hex_line (codes "0a0000000000000000000000000000000000000000000000020200000900000000000000000000000100000007000000000e0200020000000000000000000000000000000800")
    ∷ []

obeyed : List ℕ
obeyed = pair_bytes (codes "0000000000000000")

frame_ip : List ℕ
frame_ip = pair_bytes (codes "ffffffffffff0200000000010800")

frame_arp : List ℕ
frame_arp = pair_bytes (codes "ffffffffffff0200000000010806")

-- each is obeyed, and made a change
all_obeyed : AreAnswered (start_state caps Ready) commands (obeyed ∷ obeyed ∷ obeyed ∷ [])
unfolding caps hex_line commands obeyed shape_fault fits matches rule_matches first_rule action_of headers_of has_ipv4 names_ip carries ip_end eth_field ip_field is_allowed after is_sound with_change_made step le16_at le32_at le64_at whole_entry entries_of selector_of raw_list list_of group_of classifier_of raw_key rule_of object_of command_header opcode_of head_of head_and_object data_of command_of whole_reply answer_of verdict_of no_memory_reply is_no_memory changes_made_by state_left IsAnswered state_behind changes_made
all_obeyed = (refl, (refl, (refl, tt)))

three_changes : length (accepted_changes caps Ready commands (obeyed ∷ obeyed ∷ obeyed ∷ [])) ≡ 3
unfolding caps hex_line commands obeyed shape_fault fits matches rule_matches first_rule action_of headers_of has_ipv4 names_ip carries ip_end eth_field ip_field is_allowed after is_sound with_change_made step le16_at le32_at le64_at whole_entry entries_of selector_of raw_list list_of group_of classifier_of raw_key rule_of object_of command_header opcode_of head_of head_and_object data_of command_of whole_reply answer_of verdict_of no_memory_reply is_no_memory changes_made_by state_left IsAnswered state_behind changes_made
three_changes = refl

-- the group is refused for want of memory, so the rule has none; one change is made, and the first two commands made it
group_refused : AreAnswered (start_state caps Ready) commands (no_memory_reply ∷ obeyed ∷ pair_bytes (codes "0600060000000000") ∷ [])
unfolding caps hex_line commands obeyed shape_fault fits matches rule_matches first_rule action_of headers_of has_ipv4 names_ip carries ip_end eth_field ip_field is_allowed after is_sound with_change_made step le16_at le32_at le64_at whole_entry entries_of selector_of raw_list list_of group_of classifier_of raw_key rule_of object_of command_header opcode_of head_of head_and_object data_of command_of whole_reply answer_of verdict_of no_memory_reply is_no_memory changes_made_by state_left IsAnswered state_behind changes_made
group_refused = ((PutGroup 1 5, refl), (refl, (refl, tt)))

one_told : told_changes caps Ready commands (no_memory_reply ∷ obeyed ∷ pair_bytes (codes "0600060000000000") ∷ []) 2 ≡ 1
unfolding caps hex_line commands obeyed shape_fault fits matches rule_matches first_rule action_of headers_of has_ipv4 names_ip carries ip_end eth_field ip_field is_allowed after is_sound with_change_made step le16_at le32_at le64_at whole_entry entries_of selector_of raw_list list_of group_of classifier_of raw_key rule_of object_of command_header opcode_of head_of head_and_object data_of command_of whole_reply answer_of verdict_of no_memory_reply is_no_memory changes_made_by state_left IsAnswered state_behind changes_made
one_told = refl

-- a frame that was read before the rule came, one behind it, and one that it doesn't match
lines : AllZip (IsPacketLine caps.limits (accepted_changes caps Ready commands (obeyed ∷ obeyed ∷ obeyed ∷ [])) 2) (frame_ip ∷ frame_ip ∷ frame_arp ∷ []) (record { after = 2; action = Default } ∷ record { after = 3; action = Queue 1 } ∷ record { after = 3; action = Default } ∷ [])
unfolding caps hex_line commands obeyed frame_ip frame_arp shape_fault fits matches rule_matches first_rule action_of headers_of has_ipv4 names_ip carries ip_end eth_field ip_field is_allowed after is_sound with_change_made step le16_at le32_at le64_at whole_entry entries_of selector_of raw_list list_of group_of classifier_of raw_key rule_of object_of command_header opcode_of head_of head_and_object data_of command_of whole_reply answer_of verdict_of no_memory_reply is_no_memory changes_made_by state_left IsAnswered state_behind changes_made
lines = (
  record { counted = omega arith; covers = omega arith; acted = refl },
  (
    record { counted = omega arith; covers = omega arith; acted = refl },
    (record { counted = omega arith; covers = omega arith; acted = refl }, tt),
  ),
)
