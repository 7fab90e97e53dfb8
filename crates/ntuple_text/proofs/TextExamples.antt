-- Canonical lines at worked examples.
use Rattle.std.proofs.Common.{◌≡◌, Some, None, codes, refl}
use Rattle.std.specs.Fmt.{digits}
use Rattle.ntuple_text.specs.Keys.{field_name, flow_word}
use Rattle.ntuple_text.specs.SpecTexts.{action_words, field_text, field_word, flow_fields, form_text, ipv6_text, loc_words, mac_text, mask_text, options_text, part_text, piece_text, queue_words, skip_text, spec_text, type_text, value_text}
use Rattle.ntuple_text.specs.declared.spec.Flow.TheVariants.{Ether, Ip6}
use Rattle.ntuple_text.specs.declared.spec.Spec.{Spec}
use Rattle.ntuple_text.specs.declared.spec.TableDo.TheVariants.{Drop, Queue}

arp_drop : Spec
arp_drop = record {
  flow = Ether;
  src = None;
  dst = Some (record { value = 0x020000000001; skip = 0 });
  proto = Some (record { value = 0x0806; skip = 0 });
  class = None;
  src_port = None;
  dst_port = None;
  action = Drop;
  loc = 3;
}

drop_line : spec_text arp_drop ≡ codes "flow-type ether dst 02:00:00:00:00:01 proto 0x0806 action -1 loc 3"
unfolding arp_drop action_words field_text field_word flow_fields flow_word loc_words mac_text mask_text options_text part_text piece_text spec_text type_text value_text digits field_name
drop_line = refl

loopback : Spec
loopback = record { flow = Ip6; src = Some (record { value = 1; skip = 0 }); dst = None; proto = Some (record { value = 6; skip = 1 }); class = None; src_port = None; dst_port = None; action = Queue 0; loc = 2 }

loopback_line : spec_text loopback ≡ codes "flow-type ip6 src-ip 0:0:0:0:0:0:0:1 l4proto 6 m 1 action 0 loc 2"
unfolding loopback action_words field_text field_word flow_fields flow_word form_text ipv6_text loc_words mask_text options_text part_text piece_text queue_words skip_text spec_text value_text digits field_name
loopback_line = refl
