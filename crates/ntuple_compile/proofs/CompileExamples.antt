-- The definitions at worked examples.
use Rattle.std.proofs.Common.{◌≡◌, ℕ, true, false, List, [], ◌∷◌, ◌++◌, map, length, replicate, Some, None, Ok, refl, arith}
use Rattle.std.specs.List.{range_with_len}
use Rattle.ff_headers.specs.Changes.{is_sound, with_change_made, step}
use Rattle.ff_headers.specs.Fields.{is_allowed}
use Rattle.ff_headers.specs.Frames.{headers_of, has_ipv4, carries, eth_field, ip_field, ip_end, names_ip}
use Rattle.ff_headers.specs.Matching.{fits, matches}
use Rattle.ff_headers.specs.Places.{action_of, first_rule, rule_matches}
use Rattle.ff_headers.specs.SelectorParts.{SelectorParts, selector_with}
use Rattle.ff_headers.specs.Shapes.{shape_fault}
use Rattle.ff_headers.specs.declared.kind.Kind.TheVariants.{Eth, Ipv4, Ipv6, Tcp}
use Rattle.ff_headers.specs.declared.rule.Action.TheVariants as action
use Rattle.byte_numbers.specs.Numbers.{le16_at, le32_at, le64_at}
use Rattle.admin_wire.specs.Headers.{command_header, opcode_of}
use Rattle.admin_wire.specs.Layouts.{command_bytes}
use Rattle.admin_wire.specs.Lists.{whole_entry, entries_of, selector_of, raw_list, list_of}
use Rattle.admin_wire.specs.Objects.{head_of, group_of, classifier_of, raw_key, rule_of, object_of, head_and_object}
use Rattle.admin_wire.specs.Replies.{whole_reply}
use Rattle.admin_wire.specs.Wire.{data_of, command_of}
use Rattle.cap_table.specs.Answers.{answer_of, verdict_of}
use Rattle.cap_table.specs.Caps.{CapsParts, all_selectors}
use Rattle.cap_table.specs.States.{start_state}
use Rattle.cap_table.specs.Steps.{state_after}
use Rattle.cap_table.specs.declared.start.Start.TheVariants.{Ready}
use Rattle.ntuple_text.specs.declared.spec.Flow.{Flow}
use Rattle.ntuple_text.specs.declared.spec.Flow.TheVariants.{Ether, Ip4, Tcp4, Ip6}
use Rattle.ntuple_text.specs.declared.spec.Spec.{Spec}
use Rattle.ntuple_text.specs.declared.spec.TableDo.{TableDo}
use Rattle.ntuple_text.specs.declared.spec.TableDo.TheVariants.{Drop, Queue}
use Rattle.ntuple_compile.specs.SpecFits.{spec_fits, specs_action}
use Rattle.ntuple_compile.specs.Selected.{mask_for, key_part, selectors_of, key_for}
use Rattle.ntuple_compile.specs.Acceptance.{AreObeyed, AreSent, SentCommand}
use Rattle.ntuple_compile.specs.Compiled.{objects_of, creates_of, compile_fault, compiled_specs}
use Rattle.ntuple_compile.specs.declared.error.CompileErr.TheVariants.{Unsupported, Rules, Classifiers, Levels, PerGroup}

-- ---- specs and frames

-- a spec that gives no field
bare : Flow → TableDo → ℕ → Spec
bare flow what place = record { flow = flow; src = None; dst = None; proto = None; class = None; src_port = None; dst_port = None; action = what; loc = place }

-- flow-type tcp4 src-ip 10.0.0.0 m 0.0.0.255 dst-port 80 action 2 loc 5
web : Spec
web = record { flow = Tcp4; src = Some (record { value = 0x0a000000; skip = 255 }); dst = None; proto = None; class = None; src_port = None; dst_port = Some (record { value = 80; skip = 0 }); action = Queue 2; loc = 5 }

-- the same where bits of the address that are skipped are set
web_set : Spec
web_set = record { flow = Tcp4; src = Some (record { value = 0x0a000063; skip = 255 }); dst = None; proto = None; class = None; src_port = None; dst_port = Some (record { value = 80; skip = 0 }); action = Queue 2; loc = 5 }

-- flow-type ip6 tclass 0x5a action 0 loc 1
class_only : Spec
class_only = record { flow = Ip6; src = None; dst = None; proto = None; class = Some (record { value = 0x5a; skip = 0 }); src_port = None; dst_port = None; action = Queue 0; loc = 1 }

-- flow-type ether proto 0x0806 action 3 loc 1023
arp : Spec
arp = record { flow = Ether; src = None; dst = None; proto = Some (record { value = 0x0806; skip = 0 }); class = None; src_port = None; dst_port = None; action = Queue 3; loc = 1023 }

-- a frame over IPv4 with TCP, from this last byte of 10.0.0.x on to port 80
abbrev web_frame : ℕ → ℕ → List ℕ
web_frame third last =
    0xff ∷ 0xff ∷ 0xff ∷ 0xff ∷ 0xff ∷ 0xff ∷ 2 ∷ 0 ∷ 0 ∷ 0 ∷ 0 ∷ 1 ∷ 8 ∷ 0
    ∷ 0x45 ∷ 0 ∷ 0 ∷ 0x28 ∷ 0 ∷ 0 ∷ 0 ∷ 0 ∷ 0x40 ∷ 6 ∷ 0 ∷ 0 ∷ 0x0a ∷ 0 ∷ third ∷ last ∷ 0xc0 ∷ 0xa8 ∷ 0 ∷ 1
    ∷ 0x30 ∷ 0x39 ∷ 0 ∷ 80 ∷ replicate 16 0

abbrev arp_frame : List ℕ
arp_frame = 0xff ∷ 0xff ∷ 0xff ∷ 0xff ∷ 0xff ∷ 0xff ∷ 2 ∷ 0 ∷ 0 ∷ 0 ∷ 0 ∷ 1 ∷ 8 ∷ 6 ∷ []

-- ---- fits

skipped_bits_fit : spec_fits web (headers_of (web_frame 0 7)) ≡ true
unfolding web spec_fits headers_of has_ipv4 carries eth_field ip_field ip_end names_ip
skipped_bits_fit = refl

set_bits_fit_alike : spec_fits web_set (headers_of (web_frame 0 7)) ≡ true
unfolding web_set spec_fits headers_of has_ipv4 carries eth_field ip_field ip_end names_ip
set_bits_fit_alike = refl

other_bits_do_not : spec_fits web (headers_of (web_frame 1 7)) ≡ false
unfolding web spec_fits headers_of has_ipv4 carries eth_field ip_field ip_end names_ip
other_bits_do_not = refl

abbrev two : List Spec
two = web ∷ bare Ip4 Drop 9 ∷ []

first_acts : specs_action two (headers_of (web_frame 0 7)) ≡ action.Queue 2
unfolding web bare specs_action spec_fits headers_of has_ipv4 carries eth_field ip_field ip_end names_ip
first_acts = refl

second_acts : specs_action two (headers_of (web_frame 1 7)) ≡ action.Drop
unfolding web bare specs_action spec_fits headers_of has_ipv4 carries eth_field ip_field ip_end names_ip
second_acts = refl

none_acts : specs_action two (headers_of arp_frame) ≡ action.Default
unfolding web bare specs_action spec_fits headers_of has_ipv4 carries eth_field ip_field ip_end names_ip
none_acts = refl

-- ---- selectors and keys

-- of the source address all but the last byte, so a part; of the destination port all
abbrev web_selectors : List SelectorParts
web_selectors =
    selector_with Ipv4 1 (replicate 12 0 ++ (255 ∷ 255 ∷ 255 ∷ 0 ∷ replicate 4 0))
    ∷ selector_with Tcp 0 (0 ∷ 0 ∷ 255 ∷ 255 ∷ replicate 16 0) ∷ []

web_is_selected : selectors_of web ≡ web_selectors
unfolding web selectors_of mask_for
web_is_selected = refl

abbrev web_key : List ℕ
web_key = replicate 12 0 ++ (10 ∷ replicate 7 0) ++ (0 ∷ 0 ∷ 0 ∷ 80 ∷ replicate 16 0)

web_has_key : key_for web ≡ web_key
unfolding web key_for key_part
web_has_key = refl

set_bits_have_no_place : key_for web_set ≡ web_key
unfolding web_set key_for key_part
set_bits_have_no_place = refl

-- a traffic class stands in two bytes
class_is_selected : selectors_of class_only ≡ selector_with Ipv6 0 (0x0f ∷ 0xf0 ∷ replicate 38 0) ∷ []
unfolding class_only selectors_of mask_for
class_is_selected = refl

class_has_key : key_for class_only ≡ 0x05 ∷ 0xa0 ∷ replicate 38 0
unfolding class_only key_for key_part
class_has_key = refl

-- ---- commands

-- a device with these limits: groups, classifiers, rules, rules per group, and 15 as the last priority
abbrev device : ℕ → ℕ → ℕ → ℕ → CapsParts
device g c r p = record {
  pairs = 4;
  limits = record { groups = g; classifiers = c; rules = r; per_group = p; last_priority = 15; selectors = 3 };
  selectors = all_selectors;
}

-- specs of any IPv4 frame, at the locations from 0 on
ip4_specs : ℕ → List Spec
ip4_specs count = map (bare Ip4 (Queue 0)) (range_with_len 0 count)

-- the 24 bytes of a create's header
abbrev head : List ℕ
head = 0x0a ∷ replicate 23 0

-- one group, one classifier and one rule, as bytes
one_of_each : compiled_specs (device 2 4 8 8) (arp ∷ []) ≡ Ok (creates_of (objects_of (device 2 4 8 8).limits (arp ∷ [])))
unfolding arp compiled_specs compile_fault selectors_of mask_for is_allowed
one_of_each = refl

one_of_each_in_bytes :
    map command_bytes (creates_of (objects_of (device 2 4 8 8).limits (arp ∷ [])))
    ≡ (head ++ (0 ∷ 2 ∷ 0 ∷ 0 ∷ 0 ∷ 0 ∷ 0 ∷ 0 ∷ replicate 8 0) ++ (0 ∷ 0 ∷ []))
    ∷ (head ++ (1 ∷ 2 ∷ 0 ∷ 0 ∷ 0 ∷ 0 ∷ 0 ∷ 0 ∷ replicate 8 0) ++ (1 ∷ replicate 7 0) ++ (1 ∷ 0 ∷ 0 ∷ 0 ∷ 14 ∷ 0 ∷ 0 ∷ 0 ∷ []) ++ (replicate 12 0 ++ (255 ∷ 255 ∷ [])))
    ∷ (head ++ (2 ∷ 2 ∷ 0 ∷ 0 ∷ 0 ∷ 0 ∷ 0 ∷ 0 ∷ replicate 8 0) ++ (replicate 8 0) ++ (0 ∷ 14 ∷ 2 ∷ 0 ∷ 6 ∷ 0 ∷ 0 ∷ 0 ∷ []) ++ (replicate 12 0 ++ (8 ∷ 6 ∷ [])))
    ∷ []
unfolding arp creates_of objects_of selectors_of mask_for key_for key_part
one_of_each_in_bytes = refl

-- a group of 16 rules, and no room for one more
no_level_left : compile_fault (device 1 4 32 32) (ip4_specs 17) ≡ Some (Levels 17)
unfolding bare ip4_specs compile_fault selectors_of mask_for is_allowed
no_level_left = refl

all_levels_filled : compile_fault (device 1 4 32 32) (ip4_specs 16) ≡ None
unfolding bare ip4_specs compile_fault selectors_of mask_for is_allowed
all_levels_filled = refl

eighteen_commands : length (creates_of (objects_of (device 1 4 32 32).limits (ip4_specs 16))) ≡ 18
unfolding bare ip4_specs creates_of objects_of selectors_of mask_for
eighteen_commands = refl

no_room_in_groups : compile_fault (device 2 4 8 1) (ip4_specs 3) ≡ Some (PerGroup 3)
unfolding bare ip4_specs compile_fault selectors_of mask_for is_allowed
no_room_in_groups = refl

abbrev both_ips : List Spec
both_ips = bare Ip4 (Queue 0) 0 ∷ bare Ip6 (Queue 0) 1 ∷ []

one_classifier_too_many : compile_fault (device 2 1 8 8) both_ips ≡ Some (Classifiers 2)
unfolding bare compile_fault selectors_of mask_for is_allowed
one_classifier_too_many = refl

one_rule_too_many : compile_fault (device 2 4 1 8) both_ips ≡ Some (Rules 2)
unfolding bare compile_fault selectors_of mask_for is_allowed
one_rule_too_many = refl

no_selector_of_the_kind : compile_fault (record (device 2 4 8 8) { selectors = selector_with Eth 1 (replicate 14 255) ∷ [] }) (bare Ip4 (Queue 0) 5 ∷ []) ≡ Some (Unsupported 5 Ipv4)
unfolding bare compile_fault selectors_of mask_for is_allowed
no_selector_of_the_kind = refl

nothing_for_an_empty_table : compiled_specs (device 0 0 0 0) [] ≡ Ok []
unfolding compiled_specs compile_fault creates_of objects_of
nothing_for_an_empty_table = refl

-- ---- runs

-- those three commands as they are sent, each with room for a reply
abbrev arp_sent : List SentCommand
arp_sent = map (λ c. (command_bytes c, 8)) (creates_of (objects_of (device 2 4 8 8).limits (arp ∷ [])))

arp_is_sent : AreSent (creates_of (objects_of (device 2 4 8 8).limits (arp ∷ []))) arp_sent
unfolding arp creates_of objects_of selectors_of mask_for key_for key_part le16_at le32_at le64_at shape_fault is_allowed is_sound with_change_made step whole_entry entries_of selector_of raw_list list_of head_of group_of classifier_of raw_key rule_of object_of head_and_object command_header opcode_of data_of command_of answer_of verdict_of whole_reply
arp_is_sent = ((refl, omega arith), ((refl, omega arith), ((refl, omega arith), tt)))

arp_is_obeyed : AreObeyed (start_state (device 2 4 8 8) Ready) arp_sent
unfolding arp creates_of objects_of selectors_of mask_for key_for key_part le16_at le32_at le64_at shape_fault is_allowed is_sound with_change_made step whole_entry entries_of selector_of raw_list list_of head_of group_of classifier_of raw_key rule_of object_of head_and_object command_header opcode_of data_of command_of answer_of verdict_of whole_reply
arp_is_obeyed = (refl, (refl, (refl, tt)))

arp_acts : action_of (state_after (start_state (device 2 4 8 8) Ready) arp_sent).objects (headers_of arp_frame) ≡ action.Queue 3
unfolding arp creates_of objects_of selectors_of mask_for key_for key_part le16_at le32_at le64_at shape_fault is_allowed is_sound with_change_made step whole_entry entries_of selector_of raw_list list_of head_of group_of classifier_of raw_key rule_of object_of head_and_object command_header opcode_of data_of command_of answer_of verdict_of whole_reply state_after action_of first_rule rule_matches matches fits headers_of has_ipv4 carries eth_field ip_field ip_end names_ip
arp_acts = refl

-- a device without room for a classifier doesn't obey the second
too_many_are_refused : AreObeyed (start_state (device 2 0 8 8) Ready) arp_sent → ⊥
unfolding arp creates_of objects_of selectors_of mask_for key_for key_part le16_at le32_at le64_at shape_fault is_allowed is_sound with_change_made step whole_entry entries_of selector_of raw_list list_of head_of group_of classifier_of raw_key rule_of object_of head_and_object command_header opcode_of data_of command_of answer_of verdict_of whole_reply
too_many_are_refused obeyed = let second = obeyed.1.0 in absurd cc
