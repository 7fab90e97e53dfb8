-- The flows, their fields, and the words for them, after the ntuple options of ethtool(8). The choice of words is this
-- project's own.
use Rattle.std.specs.Prelude.{ℕ, Bool, true, false, if◌then◌else◌, ◌||◌, not}
use Rattle.std.specs.Prelude.{List, [], ◌∷◌, codes, Option, Some, option_map}
use Rattle.std.specs.List.{find}
use Rattle.std.specs.Str.{bytes_eq}
use Rattle.ntuple_text.specs.declared.key.SpecField.{SpecField}
use Rattle.ntuple_text.specs.declared.key.SpecField.TheVariants.{SrcMac, DstMac, EtherType, SrcIp, DstIp}
use Rattle.ntuple_text.specs.declared.key.SpecField.TheVariants.{Tos, TrafficClass, L4Proto, SrcPort, DstPort}
use Rattle.ntuple_text.specs.declared.key.FieldForm.{FieldForm}
use Rattle.ntuple_text.specs.declared.key.FieldForm.TheVariants.{Mac, Ipv4, Ipv6, Bits8, Bits16}
use Rattle.ntuple_text.specs.declared.key.OptionKey.{OptionKey}
use Rattle.ntuple_text.specs.declared.key.OptionKey.TheVariants as key
use Rattle.ntuple_text.specs.declared.spec.Flow.{Flow}
use Rattle.ntuple_text.specs.declared.spec.Flow.TheVariants.{Ether, Ip4, Tcp4, Udp4, Ip6, Tcp6, Udp6}

-- the word of a flow
unfoldable pub flow_word : Flow → List ℕ
flow_word Ether = codes "ether"
flow_word Ip4 = codes "ip4"
flow_word Tcp4 = codes "tcp4"
flow_word Udp4 = codes "udp4"
flow_word Ip6 = codes "ip6"
flow_word Tcp6 = codes "tcp6"
flow_word Udp6 = codes "udp6"

-- every flow
abbrev pub all_flows : List Flow
all_flows = Ether ∷ Ip4 ∷ Tcp4 ∷ Udp4 ∷ Ip6 ∷ Tcp6 ∷ Udp6 ∷ []

-- the flow that a word names
unfoldable pub flow_of : List ℕ → Option Flow
flow_of word = find (λ flow. bytes_eq word (flow_word flow)) all_flows

-- the word that names a field
unfoldable pub field_name : SpecField → List ℕ
field_name SrcMac = codes "src"
field_name DstMac = codes "dst"
field_name EtherType = codes "proto"
field_name SrcIp = codes "src-ip"
field_name DstIp = codes "dst-ip"
field_name Tos = codes "tos"
field_name TrafficClass = codes "tclass"
field_name L4Proto = codes "l4proto"
field_name SrcPort = codes "src-port"
field_name DstPort = codes "dst-port"

-- every field
abbrev pub all_fields : List SpecField
all_fields =
    SrcMac ∷ DstMac ∷ EtherType ∷ SrcIp ∷ DstIp ∷ Tos ∷ TrafficClass ∷ L4Proto ∷ SrcPort ∷ DstPort ∷ []

-- the field that a word names
unfoldable pub field_of : List ℕ → Option SpecField
field_of word = find (λ field. bytes_eq word (field_name field)) all_fields

-- what the option that a word names is about
unfoldable pub key_of : List ℕ → Option OptionKey
key_of word =
    if bytes_eq word (codes "action") then Some key.Action
    else (if bytes_eq word (codes "queue") then Some key.Queue
    else (if bytes_eq word (codes "loc") then Some key.Loc
    else option_map (λ field. key.SpecField field) (field_of word)))

-- a flow of any Ethernet frames
abbrev pub is_ether : Flow → Bool
is_ether Ether = true
is_ether flow = false

-- a flow of IPv4 frames
abbrev pub is_ip4 : Flow → Bool
is_ip4 Ip4 = true
is_ip4 Tcp4 = true
is_ip4 Udp4 = true
is_ip4 flow = false

-- a flow of IPv6 frames
abbrev pub is_ip6 : Flow → Bool
is_ip6 Ip6 = true
is_ip6 Tcp6 = true
is_ip6 Udp6 = true
is_ip6 flow = false

-- a flow of IP frames whatever their protocol
abbrev pub is_any_protocol : Flow → Bool
is_any_protocol Ip4 = true
is_any_protocol Ip6 = true
is_any_protocol flow = false

-- whether the flow has the field
abbrev pub has_field : Flow → SpecField → Bool
has_field flow SrcMac = is_ether flow
has_field flow DstMac = is_ether flow
has_field flow EtherType = is_ether flow
has_field flow SrcIp = not (is_ether flow)
has_field flow DstIp = not (is_ether flow)
has_field flow Tos = is_ip4 flow
has_field flow TrafficClass = is_ip6 flow
has_field flow L4Proto = is_any_protocol flow
has_field flow SrcPort = not (is_ether flow || is_any_protocol flow)
has_field flow DstPort = not (is_ether flow || is_any_protocol flow)

-- how the field's value is spelled in the flow, with its range
abbrev pub form_of : Flow → SpecField → FieldForm
form_of flow SrcMac = Mac
form_of flow DstMac = Mac
form_of flow EtherType = Bits16
form_of flow SrcIp = if is_ip6 flow then Ipv6 else Ipv4
form_of flow DstIp = if is_ip6 flow then Ipv6 else Ipv4
form_of flow Tos = Bits8
form_of flow TrafficClass = Bits8
form_of flow L4Proto = Bits8
form_of flow SrcPort = Bits16
form_of flow DstPort = Bits16
