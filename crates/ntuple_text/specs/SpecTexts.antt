-- The canonical line of a spec, and the text of a table. This project's own, in the words of ethtool(8).
use Rattle.std.specs.Prelude.{ℕ, zero, suc, ◌/◌, ◌%◌, ◌^◌, ◌==◌, nat_lt, if◌then◌else◌}
use Rattle.std.specs.Prelude.{List, [], ◌∷◌, ◌++◌, codes, drop, Option, Some, None}
use Rattle.std.specs.Char.{digit_char}
use Rattle.std.specs.Fmt.{decimal}
use Rattle.std.specs.List.{flat_map}
use Rattle.ntuple_text.specs.Keys.{field_name, flow_word, form_of}
use Rattle.ntuple_text.specs.Pieces.{byte_base, colon, dot, group_base}
use Rattle.ntuple_text.specs.TableMaps.{TableMap}
use Rattle.ntuple_text.specs.declared.key.SpecField.{SpecField}
use Rattle.ntuple_text.specs.declared.key.SpecField.TheVariants.{SrcMac, DstMac, EtherType, SrcIp, DstIp}
use Rattle.ntuple_text.specs.declared.key.SpecField.TheVariants.{Tos, TrafficClass, L4Proto, SrcPort, DstPort}
use Rattle.ntuple_text.specs.declared.key.FieldForm.{FieldForm}
use Rattle.ntuple_text.specs.declared.key.FieldForm.TheVariants.{Mac, Ipv4, Ipv6, Bits8, Bits16}
use Rattle.ntuple_text.specs.declared.piece.Spelling.{Spelling}
use Rattle.ntuple_text.specs.declared.piece.Spelling.TheVariants.{MacGroup, Ipv4Byte, Ipv6Group}
use Rattle.ntuple_text.specs.declared.spec.Flow.{Flow}
use Rattle.ntuple_text.specs.declared.spec.Flow.TheVariants.{Ether, Ip4, Tcp4, Udp4, Ip6, Tcp6, Udp6}
use Rattle.ntuple_text.specs.declared.spec.Part.{Part}
use Rattle.ntuple_text.specs.declared.spec.Spec.{Spec}
use Rattle.ntuple_text.specs.declared.spec.TableDo.{TableDo}
use Rattle.ntuple_text.specs.declared.spec.TableDo.TheVariants.{Drop, Queue}

-- the four hexadecimal digits of 16 bits, in lower case
abbrev pub four_digits : ℕ → List ℕ
four_digits n =
    digit_char (n / 4096 % 16) ∷ digit_char (n / 256 % 16) ∷ digit_char (n / 16 % 16) ∷ digit_char (n % 16) ∷ []

-- how many of the four digits are leading zeros; the last digit always counts
abbrev pub leading_zeros : ℕ → ℕ
leading_zeros n = if nat_lt n 16 then 3 else (if nat_lt n 256 then 2 else (if nat_lt n 4096 then 1 else 0))

-- one piece of an address: two digits in a MAC address, a decimal number in an IPv4 address, hexadecimal digits without
-- leading zeros in an IPv6 address
unfoldable pub piece_text : Spelling → ℕ → List ℕ
piece_text MacGroup n = drop 2 (four_digits n)
piece_text Ipv4Byte n = decimal n
piece_text Ipv6Group n = drop (leading_zeros n) (four_digits n)

-- a separator and one more piece
abbrev pub next_piece : Spelling → ℕ → ℕ → List ℕ
next_piece spelling separator n = separator ∷ piece_text spelling n

-- a first piece and the others, with separators between them
abbrev pub pieces_text : Spelling → ℕ → ℕ → List ℕ → List ℕ
pieces_text spelling separator first rest =
    piece_text spelling first ++ flat_map (next_piece spelling separator) rest

-- pieces with separators between them
abbrev pub joined_text : Spelling → ℕ → List ℕ → List ℕ
joined_text spelling separator [] = []
joined_text spelling separator (first ∷ rest) = pieces_text spelling separator first rest

-- the digits of a number in a base, from a place down to the last, the highest first
abbrev pub low_digits : ℕ → ℕ → ℕ → List ℕ
low_digits base zero number = number % base ∷ []
low_digits base (suc place) number = number / base ^ suc place % base ∷ low_digits base place number

-- the six groups of a MAC address
unfoldable pub mac_text : ℕ → List ℕ
mac_text address = joined_text MacGroup colon (low_digits byte_base 5 address)

-- the four bytes of an IPv4 address
unfoldable pub ipv4_text : ℕ → List ℕ
ipv4_text address = joined_text Ipv4Byte dot (low_digits byte_base 3 address)

-- the eight groups of an IPv6 address, without `::`
unfoldable pub ipv6_text : ℕ → List ℕ
ipv6_text address = joined_text Ipv6Group colon (low_digits group_base 7 address)

-- one above the greatest value of a form
abbrev pub form_range : FieldForm → ℕ
form_range Mac = 2 ^ 48
form_range Ipv4 = 2 ^ 32
form_range Ipv6 = 2 ^ 128
form_range Bits8 = 256
form_range Bits16 = 65536

-- a value in its form
unfoldable pub form_text : FieldForm → ℕ → List ℕ
form_text Mac value = mac_text value
form_text Ipv4 value = ipv4_text value
form_text Ipv6 value = ipv6_text value
form_text Bits8 value = decimal value
form_text Bits16 value = decimal value

-- the Ethernet type: `0x` and four digits
unfoldable pub type_text : ℕ → List ℕ
type_text value = codes "0x" ++ four_digits value

-- the value of a field
unfoldable pub value_text : Flow → SpecField → ℕ → List ℕ
value_text flow SrcMac value = mac_text value
value_text flow DstMac value = mac_text value
value_text flow EtherType value = type_text value
value_text flow SrcIp value = form_text (form_of flow SrcIp) value
value_text flow DstIp value = form_text (form_of flow DstIp) value
value_text flow Tos value = decimal value
value_text flow TrafficClass value = decimal value
value_text flow L4Proto value = decimal value
value_text flow SrcPort value = decimal value
value_text flow DstPort value = decimal value

-- the word of a field, between blanks
unfoldable pub field_word : SpecField → List ℕ
field_word field = codes " " ++ (field_name field ++ codes " ")

-- the fields of a flow, in the order in which they are written
unfoldable pub flow_fields : Flow → List SpecField
flow_fields Ether = SrcMac ∷ DstMac ∷ EtherType ∷ []
flow_fields Ip4 = SrcIp ∷ DstIp ∷ Tos ∷ L4Proto ∷ []
flow_fields Tcp4 = SrcIp ∷ DstIp ∷ Tos ∷ SrcPort ∷ DstPort ∷ []
flow_fields Udp4 = SrcIp ∷ DstIp ∷ Tos ∷ SrcPort ∷ DstPort ∷ []
flow_fields Ip6 = SrcIp ∷ DstIp ∷ TrafficClass ∷ L4Proto ∷ []
flow_fields Tcp6 = SrcIp ∷ DstIp ∷ TrafficClass ∷ SrcPort ∷ DstPort ∷ []
flow_fields Udp6 = SrcIp ∷ DstIp ∷ TrafficClass ∷ SrcPort ∷ DstPort ∷ []

-- the part that stands for a field
abbrev pub spec_part : Spec → SpecField → Option Part
spec_part spec SrcMac = spec.src
spec_part spec DstMac = spec.dst
spec_part spec EtherType = spec.proto
spec_part spec SrcIp = spec.src
spec_part spec DstIp = spec.dst
spec_part spec Tos = spec.class
spec_part spec TrafficClass = spec.class
spec_part spec L4Proto = spec.proto
spec_part spec SrcPort = spec.src_port
spec_part spec DstPort = spec.dst_port

-- a mask, which is spelled as its value
unfoldable pub skip_text : Flow → SpecField → ℕ → List ℕ
skip_text flow field mask = codes " m " ++ value_text flow field mask

-- the mask of a field, where it skips a bit
unfoldable pub mask_text : Flow → SpecField → ℕ → List ℕ
mask_text flow field mask = if mask == 0 then [] else skip_text flow field mask

-- a field that is given: its word, its value and its mask
unfoldable pub part_text : Flow → SpecField → Part → List ℕ
part_text flow field part =
    field_word field ++ (value_text flow field part.value ++ mask_text flow field part.skip)

-- a field, where it is given
abbrev pub optional_part_text : Flow → SpecField → Option Part → List ℕ
optional_part_text flow field None = []
optional_part_text flow field (Some part) = part_text flow field part

-- a field of a spec, where it is given
unfoldable pub field_text : Spec → SpecField → List ℕ
field_text spec field = optional_part_text spec.flow field (spec_part spec field)

-- a queue as an action
unfoldable pub queue_words : ℕ → List ℕ
queue_words queue = codes " action " ++ decimal queue

-- the action: `-1` for a drop, or the number of the queue
unfoldable pub action_words : TableDo → List ℕ
action_words Drop = codes " action -1"
action_words (Queue queue) = queue_words queue

-- the location
unfoldable pub loc_words : ℕ → List ℕ
loc_words loc = codes " loc " ++ decimal loc

-- the words of a line past its flow
unfoldable pub options_text : Spec → List ℕ
options_text spec =
    flat_map (field_text spec) (flow_fields spec.flow) ++ (action_words spec.action ++ loc_words spec.loc)

-- the canonical line, without its line feed
unfoldable pub spec_text : Spec → List ℕ
spec_text spec = codes "flow-type " ++ (flow_word spec.flow ++ options_text spec)

-- the bytes of the longest line that a table can have, with its line feed: one of TCP or UDP over IPv6 with a mask at
-- each field
abbrev pub longest_line : ℕ
longest_line = 275

-- what ends a line
abbrev pub line_feed : List ℕ
line_feed = 10 ∷ []

-- the line of what stands at a location
unfoldable pub slot_text : Option Spec → List ℕ
slot_text None = []
slot_text (Some spec) = spec_text spec ++ line_feed

-- the lines of a table, by rising location
abbrev pub table_lines : TableMap → List ℕ
table_lines table = flat_map slot_text table.slots
