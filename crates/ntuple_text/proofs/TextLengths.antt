-- How long the text of a table is at most.
use Rattle.std.proofs.Common.{ℕ, suc, ◌+◌, ◌*◌, ◌/◌, ◌%◌, ◌<◌, ◌≤◌, ◌==◌, true, false, cond, List, [], ◌∷◌, ◌++◌, length, length-append, length-drop, get_or, codes, Option, Some, None, subst, arith, lit≤}
use Rattle.std.specs.Fmt.{decimal}
use Rattle.std.specs.Int.Digits.{AllBelowBase}
use Rattle.std.specs.List.{flat_map}
use Rattle.std.specs.Option.{IfSome}
use Rattle.std.proofs.lemmas.Fmt.{length-decimal-le}
use Rattle.std.proofs.lemmas.Option.{IfSome_then}
use Rattle.ntuple_text.specs.Keys.{field_name, flow_word, form_of}
use Rattle.ntuple_text.specs.SpecTexts.{four_digits, leading_zeros, piece_text, next_piece, pieces_text, mac_text, ipv4_text, ipv6_text, form_range, form_text, type_text, value_text, field_word, flow_fields, spec_part, skip_text, mask_text, part_text, optional_part_text, field_text, queue_words, action_words, loc_words, options_text, spec_text, slot_text, longest_line}
use Rattle.ntuple_text.specs.Spellable.{AreSpelled, IsSpelledIn, IsActionOf, IsSpellable, IsTable}
use Rattle.ntuple_text.specs.declared.key.SpecField.{SpecField}
use Rattle.ntuple_text.specs.declared.key.SpecField.TheVariants.{SrcMac, DstMac, EtherType, SrcIp, DstIp, Tos, TrafficClass, L4Proto, SrcPort, DstPort}
use Rattle.ntuple_text.specs.declared.key.FieldForm.{FieldForm}
use Rattle.ntuple_text.specs.declared.key.FieldForm.TheVariants.{Mac, Ipv4, Ipv6, Bits8, Bits16}
use Rattle.ntuple_text.specs.declared.piece.Spelling.{Spelling}
use Rattle.ntuple_text.specs.declared.piece.Spelling.TheVariants.{MacGroup, Ipv4Byte, Ipv6Group}
use Rattle.ntuple_text.specs.declared.spec.Flow.{Flow}
use Rattle.ntuple_text.specs.declared.spec.Flow.TheVariants.{Ether, Ip4, Tcp4, Udp4, Ip6, Tcp6, Udp6}
use Rattle.ntuple_text.specs.declared.spec.Part.{Part}
use Rattle.ntuple_text.specs.declared.spec.Spec.{Spec}
use Rattle.ntuple_text.specs.declared.spec.TableDo.{TableDo}
use Rattle.ntuple_text.specs.declared.spec.TableDo.TheVariants.{Drop, Queue}
use Rattle.ntuple_text.proofs.RangeLemmas.{piece_range}

-- ---- addresses and numbers

-- the most bytes of one piece
abbrev piece_most : Spelling → ℕ
piece_most MacGroup = 2
piece_most Ipv4Byte = 3
piece_most Ipv6Group = 4

length-piece : (s : Spelling) (n : ℕ) → n < piece_range s → length (piece_text s n) ≤ piece_most s
unfolding piece_text
length-piece MacGroup n small = omega arith
length-piece Ipv4Byte n small = length-decimal-le 3 n (omega arith) (omega arith) (omega arith)
length-piece Ipv6Group n small = omega (arith, length-drop (leading_zeros n) (four_digits n))

length-pieces : (s : Spelling) (separator : ℕ) (rest : List ℕ) → AllBelowBase (piece_range s) rest → length (flat_map (next_piece s separator) rest) ≤ length rest * (piece_most s + 1)
length-pieces s separator [] small = omega arith
length-pieces s separator (n ∷ rest) small =
    let here = length-piece s n small.0 in
    let later = length-pieces s separator rest small.1 in
    omega (arith, here, later, length-append (next_piece s separator n) (flat_map (next_piece s separator) rest))

length-address : (s : Spelling) (separator first : ℕ) (rest : List ℕ) → AllBelowBase (piece_range s) (first ∷ rest) → length (pieces_text s separator first rest) ≤ piece_most s + length rest * (piece_most s + 1)
length-address s separator first rest small =
    let here = length-piece s first small.0 in
    let later = length-pieces s separator rest small.1 in
    omega (arith, here, later, length-append (piece_text s first) (flat_map (next_piece s separator) rest))

length-mac : (address : ℕ) → length (mac_text address) ≤ 17
unfolding mac_text
length-mac address =
    let rest = (address / 0x100000000 % 256) ∷ (address / 0x1000000 % 256) ∷ (address / 0x10000 % 256) ∷ (address / 0x100 % 256) ∷ (address % 256) ∷ [] in
    length-address MacGroup 58 (address / 0x10000000000 % 256) rest (omega arith, (omega arith, (omega arith, (omega arith, (omega arith, (omega arith, tt))))))

length-ipv4 : (address : ℕ) → length (ipv4_text address) ≤ 15
unfolding ipv4_text
length-ipv4 address =
    let rest = (address / 0x10000 % 256) ∷ (address / 0x100 % 256) ∷ (address % 256) ∷ [] in
    length-address Ipv4Byte 46 (address / 0x1000000 % 256) rest (omega arith, (omega arith, (omega arith, (omega arith, tt))))

length-ipv6 : (address : ℕ) → length (ipv6_text address) ≤ 39
unfolding ipv6_text
length-ipv6 address =
    let later = (address / 0x1000000000000 % 65536) ∷ (address / 0x100000000 % 65536) ∷ (address / 0x10000 % 65536) ∷ (address % 65536) ∷ [] in
    let rest = (address / 0x1000000000000000000000000 % 65536) ∷ (address / 0x100000000000000000000 % 65536) ∷ (address / 0x10000000000000000 % 65536) ∷ later in
    length-address Ipv6Group 58 (address / 0x10000000000000000000000000000 % 65536) rest (omega arith, (omega arith, (omega arith, (omega arith, (omega arith, (omega arith, (omega arith, (omega arith, tt))))))))

-- the most bytes of a value of a form
abbrev form_most : FieldForm → ℕ
form_most Mac = 17
form_most Ipv4 = 15
form_most Ipv6 = 39
form_most Bits8 = 3
form_most Bits16 = 5

length-form : (form : FieldForm) (value : ℕ) → value < form_range form → length (form_text form value) ≤ form_most form
unfolding form_text
length-form Mac value small = length-mac value
length-form Ipv4 value small = length-ipv4 value
length-form Ipv6 value small = length-ipv6 value
length-form Bits8 value small = length-decimal-le 3 value (omega arith) (omega arith) (omega arith)
length-form Bits16 value small = length-decimal-le 5 value (omega arith) (omega arith) (omega arith)

-- ---- fields

-- the most bytes of a field's value: an Ethernet type has `0x` and four digits
abbrev value_most : Flow → SpecField → ℕ
value_most flow EtherType = 6
value_most flow field = form_most (form_of flow field)

length-value : (flow : Flow) (field : SpecField) (value : ℕ) → value < form_range (form_of flow field) → length (value_text flow field value) ≤ value_most flow field
unfolding value_text type_text form_text
length-value flow SrcMac value small = length-mac value
length-value flow DstMac value small = length-mac value
length-value flow EtherType value small = omega arith
length-value flow SrcIp value small = length-form (form_of flow SrcIp) value small
length-value flow DstIp value small = length-form (form_of flow DstIp) value small
length-value flow Tos value small = length-form Bits8 value small
length-value flow TrafficClass value small = length-form Bits8 value small
length-value flow L4Proto value small = length-form Bits8 value small
length-value flow SrcPort value small = length-form Bits16 value small
length-value flow DstPort value small = length-form Bits16 value small

-- the most bytes of a field that is given: its word, and its value and its mask after ` m `
abbrev field_most : Flow → SpecField → ℕ
field_most flow field = length (field_word field) + (value_most flow field + (3 + value_most flow field))

length-mask : (flow : Flow) (field : SpecField) (mask : ℕ) → mask < form_range (form_of flow field) → length (mask_text flow field mask) ≤ 3 + value_most flow field
unfolding mask_text skip_text
length-mask flow field mask small =
    let text = value_text flow field mask in
    let here : length (codes " m " ++ text) ≤ 3 + value_most flow field = omega (arith, length-value flow field mask small, length-append (codes " m ") text) in
    elim (mask == 0) as (λ b. length (cond b [] (codes " m " ++ text)) ≤ 3 + value_most flow field) [ true ↦ omega arith | false ↦ here ]

length-part : (flow : Flow) (field : SpecField) (part : Part) → part.value < form_range (form_of flow field) → part.skip < form_range (form_of flow field) → length (part_text flow field part) ≤ field_most flow field
unfolding part_text
length-part flow field part value skip =
    let text = value_text flow field part.value in
    let mask = mask_text flow field part.skip in
    omega (arith, length-value flow field part.value value, length-mask flow field part.skip skip, length-append (field_word field) (text ++ mask), length-append text mask)

length-given : (flow : Flow) (field : SpecField) (part : Option Part) → IsSpelledIn (Some (form_of flow field)) part → length (optional_part_text flow field part) ≤ field_most flow field
length-given flow field None spelled = omega arith
length-given flow field (Some part) spelled = length-part flow field part spelled.0 spelled.1

-- the parts of these fields are spelled in their forms
abbrev AreGiven : Spec → List SpecField → Type 0
AreGiven spec [] = Unit {0}
AreGiven spec (field ∷ fields) = IsSpelledIn (Some (form_of spec.flow field)) (spec_part spec field) × AreGiven spec fields

abbrev fields_most : Flow → List SpecField → ℕ
fields_most flow [] = 0
fields_most flow (field ∷ fields) = field_most flow field + fields_most flow fields

length-fields : (spec : Spec) (fields : List SpecField) → AreGiven spec fields → length (flat_map (field_text spec) fields) ≤ fields_most spec.flow fields
unfolding field_text
length-fields spec [] given = omega arith
length-fields spec (field ∷ fields) given =
    let here = length-given spec.flow field (spec_part spec field) given.0 in
    let later = length-fields spec fields given.1 in
    omega (arith, here, later, length-append (field_text spec field) (flat_map (field_text spec) fields))

-- the fields of a flow
fields-given : (flow : Flow) (src dst proto class src_port dst_port : Option Part) (action : TableDo) (loc : ℕ) → AreSpelled flow src dst proto class src_port dst_port → AreGiven (record { flow = flow; src = src; dst = dst; proto = proto; class = class; src_port = src_port; dst_port = dst_port; action = action; loc = loc }) (flow_fields flow)
unfolding flow_fields
fields-given Ether src dst proto class src_port dst_port action loc spelled = (spelled.src, (spelled.dst, (spelled.proto, tt)))
fields-given Ip4 src dst proto class src_port dst_port action loc spelled = (spelled.src, (spelled.dst, (spelled.class, (spelled.proto, tt))))
fields-given Ip6 src dst proto class src_port dst_port action loc spelled = (spelled.src, (spelled.dst, (spelled.class, (spelled.proto, tt))))
fields-given flow src dst proto class src_port dst_port action loc spelled = (spelled.src, (spelled.dst, (spelled.class, (spelled.src_port, (spelled.dst_port, tt)))))

-- the word of a flow and its fields: those of TCP or UDP over IPv6 are the longest
flow-most : (flow : Flow) → length (flow_word flow) + fields_most flow (flow_fields flow) ≤ 245
unfolding flow_word flow_fields field_word field_name
flow-most Ether = lit≤ tt
flow-most Ip4 = lit≤ tt
flow-most Tcp4 = lit≤ tt
flow-most Udp4 = lit≤ tt
flow-most Ip6 = lit≤ tt
flow-most Tcp6 = lit≤ tt
flow-most Udp6 = lit≤ tt

-- ---- lines

length-action : (pairs : ℕ) (action : TableDo) → pairs ≤ 16 → IsActionOf pairs action → length (action_words action) ≤ 10
unfolding action_words queue_words
length-action pairs Drop few fits = omega arith
length-action pairs (Queue queue) few fits = omega (arith, length-decimal-le 2 queue (omega arith) (omega arith) (omega arith), length-append (codes " action ") (decimal queue))

length-loc : (loc : ℕ) → loc < 1024 → length (loc_words loc) ≤ 9
unfolding loc_words
length-loc loc small = omega (arith, length-decimal-le 4 loc (omega arith) (omega arith) (omega arith), length-append (codes " loc ") (decimal loc))

length-line : (pairs : ℕ) (spec : Spec) → pairs ≤ 16 → IsSpellable pairs spec → length (spec_text spec ++ 10 ∷ []) ≤ longest_line
unfolding spec_text options_text
length-line pairs spec few good =
    let fields = flat_map (field_text spec) (flow_fields spec.flow) in
    let end = action_words spec.action ++ loc_words spec.loc in
    let given = fields-given spec.flow spec.src spec.dst spec.proto spec.class spec.src_port spec.dst_port spec.action spec.loc good.parts in
    omega (
      arith,
      length-fields spec (flow_fields spec.flow) given,
      flow-most spec.flow,
      length-action pairs spec.action few good.action,
      length-loc spec.loc good.loc,
      length-append (action_words spec.action) (loc_words spec.loc),
      length-append fields end,
      length-append (flow_word spec.flow) (fields ++ end),
      length-append (codes "flow-type ") (flow_word spec.flow ++ (fields ++ end)),
      length-append (codes "flow-type " ++ (flow_word spec.flow ++ (fields ++ end))) (10 ∷ []),
    )

length-slot : (pairs : ℕ) (slot : Option Spec) → pairs ≤ 16 → IfSome slot (IsSpellable pairs) → length (slot_text slot) ≤ longest_line
unfolding slot_text
length-slot pairs None few good = omega arith
length-slot pairs (Some spec) few good = length-line pairs spec few good

length-slots : (pairs : ℕ) (slots : List (Option Spec)) → pairs ≤ 16 → ((k : ℕ) → IfSome (get_or slots k None) (IsSpellable pairs)) → length (flat_map slot_text slots) ≤ length slots * longest_line
length-slots pairs [] few good = omega arith
length-slots pairs (slot ∷ slots) few good =
    let here = length-slot pairs slot few (good 0) in
    let later = length-slots pairs slots few (λ k. good (suc k)) in
    omega (arith, here, later, length-append (slot_text slot) (flat_map slot_text slots))

-- the lines of all locations
pub length-table : (pairs : ℕ) (slots : List (Option Spec)) → IsTable pairs slots → length (flat_map slot_text slots) ≤ 1024 * longest_line
length-table pairs slots good =
    subst (λ n. length (flat_map slot_text slots) ≤ n * longest_line) good.size (length-slots pairs slots good.few (λ k. IfSome_then (get_or slots k None) (good.spelled k) (λ spec at. at.1)))
