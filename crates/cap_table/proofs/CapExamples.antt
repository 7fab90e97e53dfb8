-- The definitions on small values: the bitmap and the bytes of a device's capabilities, and the first fault of a set.
use Rattle.std.proofs.Common.{◌≡◌, refl, true, [], ◌∷◌, ◌++◌, replicate, Some, None}
use Rattle.ff_headers.specs.declared.kind.Kind.TheVariants.{Eth, Udp}
use Rattle.ff_headers.specs.declared.limits.Limits.{Limits}
use Rattle.ff_headers.specs.SelectorParts.{SelectorParts, selector_with}
use Rattle.ff_headers.specs.Fields.{is_allowed}
use Rattle.admin_wire.specs.declared.command.CapData.TheVariants as caps
use Rattle.admin_wire.specs.declared.command.RawList.TheVariants.{Good, Odd}
use Rattle.cap_table.specs.Caps.{CapsParts}
use Rattle.cap_table.specs.CapSets.{cap_fault}
use Rattle.cap_table.specs.CapResults.{list_words, cap_result}
use Rattle.cap_table.specs.declared.error.CapErr.TheVariants as faults

-- the ids 0x800 to 0x802 are the lowest bits of word 32
the_bitmap : list_words ≡ replicate 32 0 ++ 7 ∷ []
the_bitmap = refl

abbrev limits : Limits
limits = record { groups = 16; classifiers = 64; rules = 1024; per_group = 258; last_priority = 255; selectors = 3 }

-- whole fields of a UDP header's ports
abbrev ports : SelectorParts
ports = selector_with Udp 6 (255 ∷ 255 ∷ 255 ∷ 255 ∷ 0 ∷ 0 ∷ 0 ∷ 0 ∷ [])

-- any part of them
abbrev part_of_ports : SelectorParts
part_of_ports = record ports { flags = 7 }

abbrev device : CapsParts
device = record { pairs = 1; limits = limits; selectors = ports ∷ [] }

the_limits : cap_result device 0x800 ≡ Some (record {
  items = 16 ∷ 0 ∷ 0 ∷ 0 ∷ 64 ∷ 0 ∷ 0 ∷ 0 ∷ 0 ∷ 4 ∷ 0 ∷ 0 ∷ 2 ∷ 1 ∷ 0 ∷ 0 ∷ 255 ∷ 3 ∷ 0 ∷ 0 ∷ [];
})
unfolding cap_result
the_limits = refl

-- of the flags only PARTIAL_MASK is told
the_selectors : cap_result device 0x801 ≡ Some (record {
  items = 1 ∷ 0 ∷ 0 ∷ 0 ∷ 0 ∷ 0 ∷ 0 ∷ 0 ∷ 5 ∷ 0 ∷ 0 ∷ 0 ∷ 8 ∷ 0 ∷ 0 ∷ 0 ∷ ports.mask;
})
unfolding cap_result
the_selectors = refl

a_partial_selector : cap_result (record device { selectors = part_of_ports ∷ [] }) 0x801 ≡ Some (record {
  items = 1 ∷ 0 ∷ 0 ∷ 0 ∷ 0 ∷ 0 ∷ 0 ∷ 0 ∷ 5 ∷ 1 ∷ 0 ∷ 0 ∷ 8 ∷ 0 ∷ 0 ∷ 0 ∷ ports.mask;
})
unfolding cap_result
a_partial_selector = refl

the_actions : cap_result device 0x802 ≡ Some (record { items = 2 ∷ 0 ∷ 0 ∷ 0 ∷ 0 ∷ 0 ∷ 0 ∷ 0 ∷ 1 ∷ 2 ∷ [] })
unfolding cap_result
the_actions = refl

no_such_id : cap_result device 0x803 ≡ None
unfolding cap_result
no_such_id = refl

-- each fault, and none
limits_at_most : cap_fault device (caps.Limits limits) ≡ None
unfolding cap_fault
limits_at_most = refl

a_limit_above : cap_fault device (caps.Limits (record limits { selectors = 4 })) ≡ Some faults.Above
unfolding cap_fault
a_limit_above = refl

the_ports : cap_fault device (caps.Selectors (Good (record { items = ports ∷ [] }))) ≡ None
unfolding cap_fault is_allowed
the_ports = refl

ports_twice : cap_fault device (caps.Selectors (Good (record { items = ports ∷ ports ∷ [] }))) ≡ Some faults.SelectorType
unfolding cap_fault
ports_twice = refl

an_odd_list : cap_fault device (caps.Selectors Odd) ≡ Some faults.SelectorType
unfolding cap_fault
an_odd_list = refl

-- a missing type comes before a mask that isn't allowed
a_missing_type : cap_fault device (caps.Selectors (Good (record { items = selector_with Eth 1 [] ∷ part_of_ports ∷ [] })))
    ≡ Some faults.SelectorType
unfolding cap_fault
a_missing_type = refl

any_part_of_ports : cap_fault device (caps.Selectors (Good (record { items = part_of_ports ∷ [] }))) ≡ Some faults.Mask
unfolding cap_fault is_allowed
any_part_of_ports = refl

another_action : cap_fault device (caps.Actions (record { drop = true; queue = true; other = true })) ≡ Some faults.Action
unfolding cap_fault
another_action = refl

an_unknown_id : cap_fault device (caps.Other 0x803) ≡ Some faults.Id
unfolding cap_fault
an_unknown_id = refl
