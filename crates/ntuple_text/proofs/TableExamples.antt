-- Lines of a table at worked examples, for four queue pairs.
use Rattle.std.proofs.Common.{◌≡◌, ℕ, List, [], ◌∷◌, Some, None, Ok, Err, codes, refl}
use Rattle.std.specs.Fmt.{digits}
use Rattle.vnff_base.specs.Lines.{NumberedLine}
use Rattle.vnff_base.specs.Numbers.{number_of}
use Rattle.ntuple_text.specs.Addresses.{ipv6_of, groups_of, address_with_gap, last_groups}
use Rattle.ntuple_text.specs.Drafts.{with_option, with_mask_word, read_word, with_value_word}
use Rattle.ntuple_text.specs.Keys.{field_name, field_of, flow_of, flow_word, key_of}
use Rattle.ntuple_text.specs.Numerals.{hex_number, numeral_of, numeral_up_to}
use Rattle.ntuple_text.specs.Pieces.{piece_of, pieces_of}
use Rattle.ntuple_text.specs.TableLines.{after_line, spec_at_end, after_delete, after_directive, is_flag, spec_of, table_of, without_command}
use Rattle.ntuple_text.specs.TableMaps.{TableMap, free_slots}
use Rattle.ntuple_text.specs.Values.{action_value, location_value, queue_value, field_value}
use Rattle.ntuple_text.specs.declared.error.Fault.TheVariants.{NoSuchLoc, TableFull, Word}
use Rattle.ntuple_text.specs.declared.error.TextErr.TheVariants as text
use Rattle.ntuple_text.specs.declared.spec.Flow.TheVariants.{Ip4, Tcp4}
use Rattle.ntuple_text.specs.declared.spec.Spec.{Spec}
use Rattle.ntuple_text.specs.declared.spec.TableDo.TheVariants.{Drop, Queue}

one_line : List (List ℕ) → List NumberedLine
one_line words = record { number = 1; words = words } ∷ []

octal : table_of 4 (one_line (codes "flow-type" ∷ codes "tcp4" ∷ codes "dst-port" ∷ codes "080" ∷ codes "action" ∷ codes "1" ∷ [])) ≡ Err (text.Octal 1)
unfolding one_line table_of after_line without_command after_directive spec_of flow_of key_of field_of read_word with_option with_value_word field_value numeral_up_to numeral_of flow_word field_name
octal = refl

not_in_flow : table_of 4 (one_line (codes "flow-type" ∷ codes "tcp4" ∷ codes "tclass" ∷ codes "1" ∷ codes "action" ∷ codes "1" ∷ [])) ≡ Err (text.NotInFlow 1)
unfolding one_line table_of after_line without_command after_directive spec_of flow_of key_of field_of read_word with_option flow_word field_name
not_in_flow = refl

twice : table_of 4 (one_line (codes "flow-type" ∷ codes "ip4" ∷ codes "action" ∷ codes "1" ∷ codes "queue" ∷ codes "1" ∷ [])) ≡ Err (text.Twice 1)
unfolding one_line table_of after_line without_command after_directive spec_of flow_of key_of field_of read_word with_option with_value_word action_value queue_value numeral_of number_of digits flow_word field_name
twice = refl

above_range : table_of 4 (one_line (codes "flow-type" ∷ codes "ip4" ∷ codes "tos" ∷ codes "256" ∷ codes "action" ∷ codes "1" ∷ [])) ≡ Err (text.Number 1)
unfolding one_line table_of after_line without_command after_directive spec_of flow_of key_of field_of read_word with_option with_value_word field_value numeral_up_to numeral_of number_of digits flow_word field_name
above_range = refl

two_gaps : table_of 4 (one_line (codes "flow-type" ∷ codes "ip6" ∷ codes "src-ip" ∷ codes "1::2::3" ∷ codes "action" ∷ codes "1" ∷ [])) ≡ Err (text.Address 1)
unfolding one_line table_of after_line without_command after_directive spec_of flow_of key_of field_of read_word with_option with_value_word field_value ipv6_of address_with_gap groups_of last_groups pieces_of piece_of hex_number flow_word field_name
two_gaps = refl

no_action : table_of 4 (one_line (codes "flow-type" ∷ codes "ip4" ∷ [])) ≡ Err (text.NoAction 1)
unfolding one_line table_of after_line without_command after_directive spec_of flow_of spec_at_end flow_word
no_action = refl

no_queue : table_of 4 (one_line (codes "flow-type" ∷ codes "ip4" ∷ codes "action" ∷ codes "4" ∷ [])) ≡ Err (text.Queue 1)
unfolding one_line table_of after_line without_command after_directive spec_of flow_of key_of field_of read_word with_option with_value_word action_value queue_value numeral_of number_of digits flow_word field_name
no_queue = refl

no_location : table_of 4 (one_line (codes "flow-type" ∷ codes "ip4" ∷ codes "action" ∷ codes "1" ∷ codes "loc" ∷ codes "1024" ∷ [])) ≡ Err (text.Loc 1)
unfolding one_line table_of after_line without_command after_directive spec_of flow_of key_of field_of read_word with_option with_value_word action_value queue_value location_value numeral_of number_of digits flow_word field_name
no_location = refl

free_location : table_of 4 (one_line (codes "delete" ∷ codes "3" ∷ [])) ≡ Err (text.NoSuchLoc 1)
unfolding one_line table_of after_line without_command after_directive after_delete location_value numeral_of number_of digits free_slots
free_location = refl

no_drop : table_of 4 (one_line (codes "flow-type" ∷ codes "ip4" ∷ codes "action" ∷ codes "-2" ∷ [])) ≡ Err (text.Number 1)
unfolding one_line table_of after_line without_command after_directive spec_of flow_of key_of field_of read_word with_option with_value_word action_value queue_value numeral_of number_of digits flow_word field_name
no_drop = refl

command_alone : table_of 4 (one_line (codes "ethtool" ∷ codes "-N" ∷ codes "eth0" ∷ [])) ≡ Err (text.Word 1)
unfolding one_line table_of after_line without_command is_flag after_directive
command_alone = refl

-- a small table, so that places are found by computing: at its larger place a drop stands
drop_at : ℕ → Spec
drop_at loc = record { flow = Ip4; src = None; dst = None; proto = None; class = None; src_port = None; dst_port = None; action = Drop; loc = loc }

one_taken : TableMap
one_taken = record { pairs = 4; slots = None ∷ Some (drop_at 1) ∷ [] }

-- without a location the largest free one is taken, and set bits of the mask are skipped
masked_port : Spec
masked_port = record { flow = Tcp4; src = None; dst = None; proto = None; class = None; src_port = None; dst_port = Some (record { value = 80; skip = 0xff00 }); action = Queue 2; loc = 0 }

largest_free : after_line one_taken (codes "ethtool" ∷ codes "-U" ∷ codes "eth0" ∷ codes "flow-type" ∷ codes "tcp4" ∷ codes "queue" ∷ codes "2" ∷ codes "dst-port" ∷ codes "80" ∷ codes "m" ∷ codes "0xff00" ∷ []) ≡ Ok (record { pairs = 4; slots = Some masked_port ∷ Some (drop_at 1) ∷ [] })
unfolding one_taken masked_port after_line without_command is_flag after_directive spec_of flow_of key_of field_of read_word with_option with_value_word with_mask_word spec_at_end field_value queue_value numeral_up_to numeral_of hex_number number_of digits flow_word field_name
largest_free = refl

replaced : after_line one_taken (codes "flow-type" ∷ codes "ip4" ∷ codes "loc" ∷ codes "1" ∷ codes "action" ∷ codes "-1" ∷ []) ≡ Ok one_taken
unfolding one_taken drop_at after_line without_command after_directive spec_of flow_of key_of field_of read_word with_option with_value_word spec_at_end action_value location_value numeral_of number_of digits flow_word field_name
replaced = refl

removed : after_line one_taken (codes "delete" ∷ codes "1" ∷ []) ≡ Ok (record { pairs = 4; slots = None ∷ None ∷ [] })
unfolding one_taken after_line without_command after_directive after_delete location_value numeral_of number_of digits
removed = refl

-- the location is judged before a word that is too much
free_first : after_line one_taken (codes "delete" ∷ codes "0" ∷ codes "1" ∷ []) ≡ Err NoSuchLoc
unfolding one_taken after_line without_command after_directive after_delete location_value numeral_of number_of digits
free_first = refl

too_much : after_line one_taken (codes "delete" ∷ codes "1" ∷ codes "1" ∷ []) ≡ Err Word
unfolding one_taken after_line without_command after_directive after_delete location_value numeral_of number_of digits
too_much = refl

full : after_line (record { pairs = 4; slots = Some (drop_at 0) ∷ [] }) (codes "flow-type" ∷ codes "ip4" ∷ codes "action" ∷ codes "0" ∷ []) ≡ Err TableFull
unfolding after_line without_command after_directive spec_of flow_of key_of field_of read_word with_option with_value_word spec_at_end action_value queue_value numeral_of number_of digits flow_word field_name
full = refl

-- `m` without a value, and a mask that is missing
no_value : after_line one_taken (codes "flow-type" ∷ codes "ip4" ∷ codes "m" ∷ []) ≡ Err Word
unfolding after_line without_command after_directive spec_of flow_of key_of field_of read_word flow_word field_name
no_value = refl

no_mask : after_line one_taken (codes "flow-type" ∷ codes "ip4" ∷ codes "action" ∷ codes "0" ∷ codes "tos" ∷ codes "1" ∷ codes "m" ∷ []) ≡ Err Word
unfolding one_taken after_line without_command after_directive spec_of flow_of key_of field_of read_word with_option with_value_word spec_at_end field_value action_value queue_value numeral_up_to numeral_of number_of digits flow_word field_name
no_mask = refl
