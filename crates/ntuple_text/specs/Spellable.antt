-- What the lines of a table can spell, and so what every table that was read holds. This project's own.
use Rattle.std.specs.Prelude.{◌≡◌, ℕ, ◌<◌, ◌≤◌, if◌then◌else◌, ⊤}
use Rattle.std.specs.Prelude.{List, length, slice_index_or, Option, Some, None, IfSome}
use Rattle.ntuple_text.specs.Keys.{is_ether, is_ip6}
use Rattle.ntuple_text.specs.SpecTexts.{form_range}
use Rattle.ntuple_text.specs.TableMaps.{location_count, most_pairs}
use Rattle.ntuple_text.specs.declared.key.FieldForm.{FieldForm}
use Rattle.ntuple_text.specs.declared.key.FieldForm.TheVariants.{Mac, Ipv4, Ipv6, Bits8, Bits16}
use Rattle.ntuple_text.specs.declared.spec.Flow.{Flow}
use Rattle.ntuple_text.specs.declared.spec.Flow.TheVariants.{Ether, Ip4, Ip6}
use Rattle.ntuple_text.specs.declared.spec.Part.{Part}
use Rattle.ntuple_text.specs.declared.spec.Spec.{Spec}
use Rattle.ntuple_text.specs.declared.spec.TableDo.{TableDo}
use Rattle.ntuple_text.specs.declared.spec.TableDo.TheVariants.{Drop, Queue}

-- how a flow's addresses are spelled
abbrev pub address_form : Flow → FieldForm
address_form flow = if is_ether flow then Mac else (if is_ip6 flow then Ipv6 else Ipv4)

-- how its Ethernet type, or its protocol, is spelled, where the flow has one of these
abbrev pub proto_form : Flow → Option FieldForm
proto_form Ether = Some Bits16
proto_form Ip4 = Some Bits8
proto_form Ip6 = Some Bits8
proto_form flow = None

-- how its type of service, or its traffic class, is spelled, where it has one of these
abbrev pub class_form : Flow → Option FieldForm
class_form Ether = None
class_form flow = Some Bits8

-- how its ports are spelled, where it has ports
abbrev pub port_form : Flow → Option FieldForm
port_form Ether = None
port_form Ip4 = None
port_form Ip6 = None
port_form flow = Some Bits16

-- the value and the mask of a part are spelled in the form; no part stands where the flow has no field
abbrev pub IsSpelledIn : Option FieldForm → Option Part → Type 0
IsSpelledIn form None = ⊤
IsSpelledIn None (Some part) = ⊥
IsSpelledIn (Some form) (Some part) = (part.value < form_range form) × (part.skip < form_range form)

-- the parts of a spec, or of the options of a line so far, are such as the flow's fields spell
pub record AreSpelled (flow : Flow)
    (source destination protocol service source_port destination_port : Option Part) : Type 0 where
  pub src : IsSpelledIn (Some (address_form flow)) source
  pub dst : IsSpelledIn (Some (address_form flow)) destination
  pub proto : IsSpelledIn (proto_form flow) protocol
  pub class : IsSpelledIn (class_form flow) service
  pub src_port : IsSpelledIn (port_form flow) source_port
  pub dst_port : IsSpelledIn (port_form flow) destination_port

-- a queue is below the queue pairs
abbrev pub IsActionOf : ℕ → TableDo → Type 0
IsActionOf pairs Drop = ⊤
IsActionOf pairs (Queue queue) = queue < pairs

-- a line can spell the spec, for so many queue pairs
pub record IsSpellable (pairs : ℕ) (spec : Spec) : Type 0 where
  pub parts : AreSpelled spec.flow spec.src spec.dst spec.proto spec.class spec.src_port spec.dst_port
  pub action : IsActionOf pairs spec.action
  pub loc : spec.loc < location_count

-- every table: it is for one queue pair or more, up to the limit, and what stands at one of its locations is a spec of
-- this location that a line can spell
pub record IsTable (pairs : ℕ) (slots : List (Option Spec)) : Type 0 where
  pub size : length slots ≡ location_count
  pub some : 1 ≤ pairs
  pub few : pairs ≤ most_pairs
  pub spelled : (loc : ℕ) →
      IfSome (slice_index_or slots loc None) (λ spec. (spec.loc ≡ loc) × IsSpellable pairs spec)
