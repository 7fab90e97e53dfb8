-- Worked rows of compiled tables, computed from the definitions: what is written, and the lines of refusals.
use Rattle.std.proofs.Common.{◌≡◌, ℕ, List, [], ◌∷◌, replicate, codes, Some, None, refl}
use Rattle.std.specs.Fmt.{digits}
use Rattle.ff_headers.specs.Frames.{headers_of, has_ipv4, carries, eth_field, ip_field, ip_end, names_ip}
use Rattle.ff_headers.specs.declared.kind.Kind.TheVariants.{Ipv4}
use Rattle.cap_table.specs.Caps.{CapsParts, all_selectors}
use Rattle.capture.specs.declared.error.CaptureErr.TheVariants.{Truncated, LinkType}
use Rattle.ntuple_text.specs.Keys.{field_name, flow_word}
use Rattle.ntuple_text.specs.SpecTexts.{action_words, field_text, field_word, flow_fields, loc_words, mask_text, options_text, part_text, queue_words, spec_text, type_text, value_text}
use Rattle.ntuple_text.specs.TableMaps.{TableMap}
use Rattle.ntuple_text.specs.declared.spec.Flow.TheVariants.{Ether, Ip4, Tcp4}
use Rattle.ntuple_text.specs.declared.spec.Spec.{Spec}
use Rattle.ntuple_text.specs.declared.spec.TableDo.TheVariants.{Drop, Queue}
use Rattle.ntuple_compile.specs.Compiled.{creates_of, objects_of}
use Rattle.ntuple_compile.specs.Selected.{key_for, key_part, mask_for, selectors_of}
use Rattle.ntuple_compile.specs.SpecFits.{spec_fits, specs_action}
use Rattle.vnff_run.specs.CompileTexts.{command_line, comment_line, compile_text, device_text}
use Rattle.vnff_run.specs.Forms.{word_form}
use Rattle.vnff_run.specs.Outcomes.{outcome_in, outcome_of, fault_words, refusal_line, refusal_words}
use Rattle.vnff_run.specs.Replay.{action_text}
use Rattle.vnff_run.specs.ScriptTexts.{device_words, item_words, selector_lines}
use Rattle.vnff_run.specs.TableInputs.{caps_in, compiled_in, table_run_in}
use Rattle.vnff_run.specs.TableRefusals.{capture_words, limit_words, unsupported_words}
use Rattle.vnff_run.specs.Tables.{packet_line, table_text}
use Rattle.vnff_run.specs.declared.error.Reason.TheVariants as reasons
use Rattle.vnff_run.specs.declared.stop.RefusedInput.TheVariants.{BadDevice, BadTable, BadCapture, Unsupported, PastLimit}
use Rattle.vnff_run.specs.declared.table_refusal.TableLimit.TheVariants.{PerGroup}
use Rattle.vnff_run.specs.declared.table_refusal.TableReason.TheVariants as table_reasons

-- ---- the lines of refusals

a_device_that_resets : refusal_line (BadDevice 2 reasons.Start) ≡ codes "refused device:2 start\n"
unfolding refusal_line refusal_words fault_words digits
a_device_that_resets = refl

a_delete_of_nothing : refusal_line (BadTable 1 table_reasons.NoSuchLoc) ≡ codes "refused table:1 no-such-loc\n"
unfolding refusal_line refusal_words fault_words digits
a_delete_of_nothing = refl

a_record_cut_short : refusal_line (BadCapture (Truncated 24)) ≡ codes "refused capture@24 truncated\n"
unfolding refusal_line refusal_words capture_words digits
a_record_cut_short = refl

another_link_type : refusal_line (BadCapture LinkType) ≡ codes "refused capture@20 linktype\n"
unfolding refusal_line refusal_words capture_words digits
another_link_type = refl

a_missing_selector : refusal_line (Unsupported 5 Ipv4) ≡ codes "refused compile unsupported 5 ipv4\n"
unfolding refusal_line refusal_words unsupported_words digits
a_missing_selector = refl

three_rules_in_groups : refusal_line (PastLimit PerGroup 3) ≡ codes "refused compile per-group 3\n"
unfolding refusal_line refusal_words limit_words digits
three_rules_in_groups = refl

-- ---- what is written

-- device 4 2 4 8 8 15 3 ready
abbrev some_device : CapsParts
some_device = record {
  pairs = 4;
  limits = record { groups = 2; classifiers = 4; rules = 8; per_group = 8; last_priority = 15; selectors = 3 };
  selectors = all_selectors;
}

abbrev table_with : List Spec → TableMap
table_with [] = record { pairs = 4; slots = [] }
table_with (spec ∷ specs) = record { pairs = 4; slots = Some spec ∷ (table_with specs).slots }

-- a table without a spec
nothing_compiled : compile_text (record { caps = some_device; table = table_with []; commands = [] }) ≡ codes "vnff 1\ndevice 4 2 4 8 8 15 3 ready\n"
unfolding compile_text device_text device_words selector_lines digits
nothing_compiled = refl

-- flow-type ether proto 0x0806 action 3 loc 1023
abbrev arp : Spec
arp = record { flow = Ether; src = None; dst = None; proto = Some (record { value = 0x0806; skip = 0 }); class = None; src_port = None; dst_port = None; action = Queue 3; loc = 1023 }

arp_in_words : comment_line arp ≡ codes "# flow-type ether proto 0x0806 action 3 loc 1023\n"
unfolding comment_line spec_text flow_word options_text flow_fields field_text part_text field_word field_name value_text type_text mask_text action_words queue_words loc_words digits
arp_in_words = refl

-- the whole script of this spec
a_spec_compiled : compile_text (record { caps = some_device; table = table_with (arp ∷ []); commands = creates_of (objects_of some_device.limits (arp ∷ [])) }) ≡ codes "vnff 1\ndevice 4 2 4 8 8 15 3 ready\n# flow-type ether proto 0x0806 action 3 loc 1023\nadmin 0a0000000000000000000000000000000000000000000000000200000000000000000000000000000000 8\nadmin 0a0000000000000000000000000000000000000000000000010200000000000000000000000000000100000000000000010000000e000000000000000000000000000000ffff 8\nadmin 0a0000000000000000000000000000000000000000000000020200000000000000000000000000000000000000000000000e0200060000000000000000000000000000000806 8\n"
unfolding compile_text device_text device_words selector_lines comment_line spec_text flow_word options_text flow_fields field_text part_text field_word field_name value_text type_text mask_text action_words queue_words loc_words command_line item_words creates_of objects_of selectors_of key_for mask_for key_part digits
a_spec_compiled = refl

-- flow-type tcp4 src-ip 10.0.0.0 m 0.0.0.255 dst-port 80 action 2 loc 5
abbrev web : Spec
web = record { flow = Tcp4; src = Some (record { value = 0x0a000000; skip = 255 }); dst = None; proto = None; class = None; src_port = None; dst_port = Some (record { value = 80; skip = 0 }); action = Queue 2; loc = 5 }

-- flow-type ip4 action -1 loc 9
abbrev no_ip4 : Spec
no_ip4 = record { flow = Ip4; src = None; dst = None; proto = None; class = None; src_port = None; dst_port = None; action = Drop; loc = 9 }

-- a frame over IPv4 with TCP, from 10.0.x.7 to port 80
abbrev web_frame : ℕ → List ℕ
web_frame third =
    2 ∷ 0 ∷ 0 ∷ 0 ∷ 0 ∷ 0xaa ∷ 2 ∷ 0 ∷ 0 ∷ 0 ∷ 0 ∷ 0xbb ∷ 8 ∷ 0
    ∷ 0x45 ∷ 0 ∷ 0 ∷ 0x28 ∷ 0 ∷ 0 ∷ 0 ∷ 0 ∷ 0x40 ∷ 6 ∷ 0 ∷ 0 ∷ 0x0a ∷ 0 ∷ third ∷ 7 ∷ 0xc0 ∷ 0xa8 ∷ 0 ∷ 1
    ∷ 0x30 ∷ 0x39 ∷ 0 ∷ 80 ∷ replicate 16 0

abbrev arp_frame : List ℕ
arp_frame = 0xff ∷ 0xff ∷ 0xff ∷ 0xff ∷ 0xff ∷ 0xff ∷ 2 ∷ 0 ∷ 0 ∷ 0 ∷ 0 ∷ 1 ∷ 8 ∷ 6 ∷ []

-- the spec at the least location acts; a frame that none fits gets the default
three_packets : table_text (table_with (web ∷ no_ip4 ∷ [])) (web_frame 0 ∷ web_frame 1 ∷ arp_frame ∷ []) ≡ codes "packet 0 queue 2\npacket 1 drop\npacket 2 default\n"
unfolding table_text packet_line action_text specs_action spec_fits headers_of has_ipv4 carries eth_field ip_field ip_end names_ip digits
three_packets = refl

-- ---- the order of the inputs

-- a shelf without a file: the form reads the device first
no_files : outcome_of (codes "table" ∷ codes "d" ∷ codes "t" ∷ codes "c" ∷ []) (λ _. None) ≡ record { status = 3; text = [] }
unfolding word_form outcome_in table_run_in compiled_in caps_in
no_files = refl

-- words of no form
two_files : outcome_of (codes "compile" ∷ codes "d" ∷ []) (λ _. None) ≡ record { status = 2; text = [] }
unfolding word_form
two_files = refl
