-- The value of a field that is written is read back.
use Rattle.std.proofs.Common.{◌≡◌, ℕ, ◌<◌, Ok, ap, arith}
use Rattle.std.specs.Option.{ok_or}
use Rattle.ntuple_text.specs.Keys.{form_of}
use Rattle.ntuple_text.specs.SpecTexts.{form_range, form_text, value_text}
use Rattle.ntuple_text.specs.Values.{field_value}
use Rattle.ntuple_text.specs.declared.error.Fault.TheVariants.{Address}
use Rattle.ntuple_text.specs.declared.key.SpecField.{SpecField}
use Rattle.ntuple_text.specs.declared.key.SpecField.TheVariants.{SrcMac, DstMac, EtherType, SrcIp, DstIp, Tos, TrafficClass, L4Proto, SrcPort, DstPort}
use Rattle.ntuple_text.specs.declared.key.FieldForm.{FieldForm}
use Rattle.ntuple_text.specs.declared.key.FieldForm.TheVariants.{Mac, Ipv4, Ipv6, Bits8, Bits16}
use Rattle.ntuple_text.specs.declared.spec.Flow.{Flow}
use Rattle.ntuple_text.proofs.ReadBackLemmas.{numeral_up_to-decimal, numeral_up_to-type, mac_of-mac_text, ipv4_of-ipv4_text, ipv6_of-ipv6_text}

pub form-read : (form : FieldForm) (v : ℕ) → v < form_range form → field_value form (form_text form v) ≡ Ok v
unfolding field_value form_text
form-read Mac v small = ap (λ o. ok_or o Address) (mac_of-mac_text v small)
form-read Ipv4 v small = ap (λ o. ok_or o Address) (ipv4_of-ipv4_text v small)
form-read Ipv6 v small = ap (λ o. ok_or o Address) (ipv6_of-ipv6_text v small)
form-read Bits8 v small = numeral_up_to-decimal 255 v (omega arith) (omega arith)
form-read Bits16 v small = numeral_up_to-decimal 65535 v (omega arith) (omega arith)

pub value-read : (flow : Flow) (field : SpecField) (v : ℕ) → v < form_range (form_of flow field) → field_value (form_of flow field) (value_text flow field v) ≡ Ok v
unfolding field_value value_text form_text
value-read flow SrcMac v small = ap (λ o. ok_or o Address) (mac_of-mac_text v small)
value-read flow DstMac v small = ap (λ o. ok_or o Address) (mac_of-mac_text v small)
value-read flow EtherType v small = numeral_up_to-type v small
value-read flow SrcIp v small = form-read (form_of flow SrcIp) v small
value-read flow DstIp v small = form-read (form_of flow DstIp) v small
value-read flow Tos v small = numeral_up_to-decimal 255 v (omega arith) (omega arith)
value-read flow TrafficClass v small = numeral_up_to-decimal 255 v (omega arith) (omega arith)
value-read flow L4Proto v small = numeral_up_to-decimal 255 v (omega arith) (omega arith)
value-read flow SrcPort v small = numeral_up_to-decimal 65535 v (omega arith) (omega arith)
value-read flow DstPort v small = numeral_up_to-decimal 65535 v (omega arith) (omega arith)
