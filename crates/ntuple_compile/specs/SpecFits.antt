-- When the headers of a frame fit a spec of a table, and what a table does with a frame. That a spec gives values for
-- fields of headers, that a bit which is set in a mask isn't compared, and that the least location decides, is
-- ethtool's (ethtool(8), the ntuple options; `struct ethtool_rx_flow_spec` of linux/ethtool.h). Which flows and fields
-- there are, and which headers a flow names, is this project's own.
use Rattle.std.specs.Prelude.{ℕ, ◌≡◌, ◌<◌, Bool, true, false, bit_or, ◌==◌, List, [], ◌∷◌, Option, Some, None, IsTrue}
use Rattle.std.specs.Prelude.{find, filter_map}
use Rattle.std.specs.List.{list_all}
use Rattle.std.specs.Option.{option_map_or}
use Rattle.std.specs.Int.{bit_at}
use Rattle.ff_headers.specs.Fields.{value_at, ether_type, ipv4_protocol, ipv6_next_header}
use Rattle.ff_headers.specs.Frames.{HeaderBytes, header_at}
use Rattle.ff_headers.specs.declared.field.Field.{Field}
use Rattle.ff_headers.specs.declared.kind.Kind.{Kind}
use Rattle.ff_headers.specs.declared.kind.Kind.TheVariants.{Eth, Ipv4, Ipv6, Tcp, Udp}
use Rattle.ff_headers.specs.declared.rule.Action.{Action}
use Rattle.ff_headers.specs.declared.rule.Action.TheVariants as action
use Rattle.ntuple_text.specs.TableMaps.{TableMap, spec_at}
use Rattle.ntuple_text.specs.declared.spec.Flow.{Flow}
use Rattle.ntuple_text.specs.declared.spec.Flow.TheVariants.{Ether, Ip4, Tcp4, Udp4, Ip6, Tcp6, Udp6}
use Rattle.ntuple_text.specs.declared.spec.Part.{Part}
use Rattle.ntuple_text.specs.declared.spec.Spec.{Spec}
use Rattle.ntuple_text.specs.declared.spec.TableDo.{TableDo}
use Rattle.ntuple_text.specs.declared.spec.TableDo.TheVariants.{Drop, Queue}
use Rattle.ntuple_compile.specs.HeaderFields.{ether_destination, ether_source, ipv4_service, ipv4_source, ipv4_destination}
use Rattle.ntuple_compile.specs.HeaderFields.{ipv6_class, ipv6_source, ipv6_destination, source_port, destination_port}

-- ---- one field

-- both have the same bit at each place that isn't skipped
abbrev pub AgreesWith : Part → ℕ → Type 0
AgreesWith part number = (place : ℕ) → bit_at part.skip place ≡ 0 → bit_at part.value place ≡ bit_at number place

-- a field's number is the value that is given for it, with the skipped bits set in both; a field that isn't given isn't
-- compared
abbrev pub agrees : Option Part → ℕ → Bool
agrees None number = true
agrees (Some part) number = bit_or part.value part.skip == bit_or number part.skip

-- ---- one header

-- a field of a header, and what is given for it
pub record NamedField : Type 0 where
  pub place : Field
  pub given : Option Part

abbrev pub named : Field → Option Part → NamedField
named f part = record { place = f; given = part }

-- the fields of a header that a spec can name, in their order there
abbrev pub named_fields : Spec → Kind → List NamedField
named_fields spec Eth =
    named ether_destination spec.dst ∷ named ether_source spec.src ∷ named ether_type spec.proto ∷ []
named_fields spec Ipv4 =
    named ipv4_service spec.class ∷ named ipv4_protocol spec.proto ∷ named ipv4_source spec.src
    ∷ named ipv4_destination spec.dst ∷ []
named_fields spec Ipv6 =
    named ipv6_class spec.class ∷ named ipv6_next_header spec.proto ∷ named ipv6_source spec.src
    ∷ named ipv6_destination spec.dst ∷ []
named_fields spec Tcp = named source_port spec.src_port ∷ named destination_port spec.dst_port ∷ []
named_fields spec Udp = named source_port spec.src_port ∷ named destination_port spec.dst_port ∷ []

-- each named field of a header agrees with what is given for it
abbrev pub fields_agree : List NamedField → List ℕ → Bool
fields_agree fields header = list_all (λ f. agrees f.given (value_at f.place header)) fields

-- the header of a kind is there, and agrees with the spec
abbrev pub header_agrees : Spec → HeaderBytes → Kind → Bool
header_agrees spec headers kind = option_map_or (fields_agree (named_fields spec kind)) (header_at headers kind) false

-- ---- a frame

-- the headers that a flow names
abbrev pub kinds_of : Flow → List Kind
kinds_of Ether = Eth ∷ []
kinds_of Ip4 = Ipv4 ∷ []
kinds_of Tcp4 = Ipv4 ∷ Tcp ∷ []
kinds_of Udp4 = Ipv4 ∷ Udp ∷ []
kinds_of Ip6 = Ipv6 ∷ []
kinds_of Tcp6 = Ipv6 ∷ Tcp ∷ []
kinds_of Udp6 = Ipv6 ∷ Udp ∷ []

-- the headers of a frame fit a spec: each header that its flow names is there, and each field that it gives agrees
unfoldable pub spec_fits : Spec → HeaderBytes → Bool
spec_fits spec headers = list_all (header_agrees spec headers) (kinds_of spec.flow)

-- ---- a table

-- the specs of a table by rising location
abbrev pub specs_of : TableMap → List Spec
specs_of table = filter_map (λ slot. slot) table.slots

-- what a spec does with a frame
abbrev pub action_for : TableDo → Action
action_for Drop = action.Drop
action_for (Queue queue) = action.Queue queue

-- the action of the first spec that fits, or the default
unfoldable pub specs_action : List Spec → HeaderBytes → Action
specs_action specs headers =
    option_map_or (λ spec. action_for spec.action) (find (λ spec. spec_fits spec headers) specs) action.Default

-- the action of the spec at the least location that fits, or the default
abbrev pub table_action : TableMap → HeaderBytes → Action
table_action table headers = specs_action (specs_of table) headers

-- a spec at a location fits the headers
pub record FitsAt (table : TableMap) (headers : HeaderBytes) (loc : ℕ) (spec : Spec) : Type 0 where
  pub is_there : spec_at table loc ≡ Some spec
  pub fits : IsTrue (spec_fits spec headers)

-- a spec fits, and no spec at a lesser location does
pub record FitsFirst (table : TableMap) (headers : HeaderBytes) (loc : ℕ) (spec : Spec) : Type 0 where
  pub fitting : FitsAt table headers loc spec
  pub least : (below : ℕ) (other : Spec) → below < loc → ¬ FitsAt table headers below other

-- no spec fits
abbrev pub NoneFits : TableMap → HeaderBytes → Type 0
NoneFits table headers = (loc : ℕ) (spec : Spec) → ¬ FitsAt table headers loc spec
