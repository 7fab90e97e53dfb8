-- A field of a flow is spelled like the part that stands for it.
use Rattle.std.proofs.Common.{◌≡◌, ℕ, ◌<◌, true, not, ◌||◌, Option, Some, None, option_map, ap, refl, sym, subst, arith, if◌then◌else◌}
use Rattle.std.proofs.lemmas.Bool.{cond-true, false≢true}
use Rattle.ntuple_text.specs.Drafts.{with_skip}
use Rattle.ntuple_text.specs.Keys.{form_of, is_any_protocol, is_ether, has_field, is_ip4, is_ip6}
use Rattle.ntuple_text.specs.SpecTexts.{form_range}
use Rattle.ntuple_text.specs.Spellable.{IsSpelledIn, address_form, class_form, port_form, proto_form}
use Rattle.ntuple_text.specs.declared.key.SpecField.{SpecField}
use Rattle.ntuple_text.specs.declared.key.SpecField.TheVariants.{SrcMac, DstMac, EtherType, SrcIp, DstIp, Tos, TrafficClass, L4Proto, SrcPort, DstPort}
use Rattle.ntuple_text.specs.declared.key.FieldForm.{FieldForm}
use Rattle.ntuple_text.specs.declared.key.FieldForm.TheVariants.{Mac, Ipv4, Ipv6, Bits8, Bits16}
use Rattle.ntuple_text.specs.declared.spec.Flow.{Flow}
use Rattle.ntuple_text.specs.declared.spec.Flow.TheVariants.{Ether, Ip4, Ip6}
use Rattle.ntuple_text.specs.declared.spec.Part.{Part}

-- how a field's part is spelled, by the part that stands for it
abbrev pub slot_form : Flow → SpecField → Option FieldForm
slot_form flow SrcMac = Some (address_form flow)
slot_form flow DstMac = Some (address_form flow)
slot_form flow EtherType = proto_form flow
slot_form flow SrcIp = Some (address_form flow)
slot_form flow DstIp = Some (address_form flow)
slot_form flow Tos = class_form flow
slot_form flow TrafficClass = class_form flow
slot_form flow L4Proto = proto_form flow
slot_form flow SrcPort = port_form flow
slot_form flow DstPort = port_form flow

-- a field of a flow is spelled like the part that stands for it
mac-slot : (flow : Flow) → is_ether flow ≡ true → Some (address_form flow) ≡ Some Mac
mac-slot flow ether = ap Some (cond-true (is_ether flow) Mac (if is_ip6 flow then Ipv6 else Ipv4) ether)

ip-slot : (flow : Flow) → not (is_ether flow) ≡ true → Some (address_form flow) ≡ Some (if is_ip6 flow then Ipv6 else Ipv4)
ip-slot Ether other = absurd (false≢true other)
ip-slot flow other = refl

type-slot : (flow : Flow) → is_ether flow ≡ true → proto_form flow ≡ Some Bits16
type-slot Ether ether = refl
type-slot flow ether = absurd (false≢true ether)

tos-slot : (flow : Flow) → is_ip4 flow ≡ true → class_form flow ≡ Some Bits8
tos-slot Ether ip = absurd (false≢true ip)
tos-slot flow ip = refl

tclass-slot : (flow : Flow) → is_ip6 flow ≡ true → class_form flow ≡ Some Bits8
tclass-slot Ether ip = absurd (false≢true ip)
tclass-slot flow ip = refl

protocol-slot : (flow : Flow) → is_any_protocol flow ≡ true → proto_form flow ≡ Some Bits8
protocol-slot Ip4 any = refl
protocol-slot Ip6 any = refl
protocol-slot flow any = absurd (false≢true any)

port-slot : (flow : Flow) → not (is_ether flow || is_any_protocol flow) ≡ true → port_form flow ≡ Some Bits16
port-slot Ether ports = absurd (false≢true ports)
port-slot Ip4 ports = absurd (false≢true ports)
port-slot Ip6 ports = absurd (false≢true ports)
port-slot flow ports = refl

pub slot_form-is : (flow : Flow) (field : SpecField) → has_field flow field ≡ true → slot_form flow field ≡ Some (form_of flow field)
slot_form-is flow SrcMac has = mac-slot flow has
slot_form-is flow DstMac has = mac-slot flow has
slot_form-is flow EtherType has = type-slot flow has
slot_form-is flow SrcIp has = ip-slot flow has
slot_form-is flow DstIp has = ip-slot flow has
slot_form-is flow Tos has = tos-slot flow has
slot_form-is flow TrafficClass has = tclass-slot flow has
slot_form-is flow L4Proto has = protocol-slot flow has
slot_form-is flow SrcPort has = port-slot flow has
slot_form-is flow DstPort has = port-slot flow has

-- a part that is spelled in the field's form
pub in-slot : (flow : Flow) (field : SpecField) (part : Option Part) → has_field flow field ≡ true → IsSpelledIn (Some (form_of flow field)) part → IsSpelledIn (slot_form flow field) part
in-slot flow field part has spelled = let P : Option FieldForm → Type 0 = λ form. IsSpelledIn form part in subst P (sym (slot_form-is flow field has)) spelled

-- no bit of a mask is set where none is given
pub range-some : (form : FieldForm) → 0 < form_range form
range-some Mac = omega arith
range-some Ipv4 = omega arith
range-some Ipv6 = omega arith
range-some Bits8 = omega arith
range-some Bits16 = omega arith

-- a mask that is spelled like the value
pub with_skip-spelled : (form : FieldForm) (part : Option Part) (mask : ℕ) → mask < form_range form → IsSpelledIn (Some form) part → IsSpelledIn (Some form) (option_map (with_skip mask) part)
with_skip-spelled form None mask small spelled = tt
with_skip-spelled form (Some part) mask small spelled = (spelled.0, small)
