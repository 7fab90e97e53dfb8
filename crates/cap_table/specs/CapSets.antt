-- Setting a capability of the driver: why it is refused, and what it leaves (Virtio 1.4 draft, "Device capabilities": a
-- driver sets no more than the device offers). Which fault is found first is this project's own.
use Rattle.std.specs.Prelude.{◌≡◌, Bool, true, false, not, ◌&&◌, ◌||◌, nat_lt, if◌then◌else◌, List, Option, Some, None, is_some, ⊤}
use Rattle.std.specs.List.{list_any}
use Rattle.std.specs.List.Sorted.{IsStrictlyIncreasing}
use Rattle.std.specs.Option.{option_map_or}
use Rattle.ff_headers.specs.declared.limits.Limits.{Limits}
use Rattle.ff_headers.specs.Fields.{is_allowed, is_partial}
use Rattle.ff_headers.specs.SelectorParts.{SelectorParts}
use Rattle.ff_headers.specs.Shapes.{codes_of, rises}
use Rattle.admin_wire.specs.declared.command.CapData.{CapData}
use Rattle.admin_wire.specs.declared.command.CapData.TheVariants as caps
use Rattle.admin_wire.specs.declared.command.RawList.{RawList}
use Rattle.admin_wire.specs.declared.command.RawList.TheVariants.{Good, Odd}
use Rattle.cap_table.specs.Caps.{CapsParts, DriverParts, AtMost, AreSelectors, selector_of_kind}
use Rattle.cap_table.specs.declared.error.CapErr.{CapErr}
use Rattle.cap_table.specs.declared.error.CapErr.TheVariants as faults

-- ---- why a capability isn't set

-- the id is that of none of the three
abbrev pub is_id_unknown : CapData → Bool
is_id_unknown (caps.Other id) = true
is_id_unknown _ = false

-- some limit is above the other's
abbrev pub is_some_above : Limits → Limits → Bool
is_some_above most limits =
    nat_lt most.groups limits.groups || nat_lt most.classifiers limits.classifiers || nat_lt most.rules limits.rules
    || nat_lt most.per_group limits.per_group || nat_lt most.last_priority limits.last_priority
    || nat_lt most.selectors limits.selectors

-- a limit is above the device's
abbrev pub has_limit_above : CapsParts → CapData → Bool
has_limit_above device (caps.Limits limits) = is_some_above device.limits limits
has_limit_above device _ = false

-- a capability has no selector of the wanted one's type
abbrev pub is_type_missing : List SelectorParts → SelectorParts → Bool
is_type_missing have wanted = not (is_some (selector_of_kind wanted.kind have))

-- the list is odd, its types don't rise strictly, or a type is missing
abbrev pub is_list_refused : List SelectorParts → RawList → Bool
is_list_refused have (Good list) = not (rises (codes_of list.items)) || list_any (is_type_missing have) list.items
is_list_refused have Odd = true

-- the list is refused for the device's selectors
abbrev pub has_type_refused : CapsParts → CapData → Bool
has_type_refused device (caps.Selectors list) = is_list_refused device.selectors list
has_type_refused device _ = false

-- the mask isn't allowed by a selector, or any part of it may be asked for (PARTIAL_MASK) and not of that selector's
abbrev pub is_mask_beyond : SelectorParts → SelectorParts → Bool
is_mask_beyond one wanted = not (is_allowed one wanted) || (is_partial wanted && not (is_partial one))

-- the mask is beyond that of the capability's selector of its type
abbrev pub is_mask_refused : List SelectorParts → SelectorParts → Bool
is_mask_refused have wanted = option_map_or (λ one. is_mask_beyond one wanted) (selector_of_kind wanted.kind have) false

-- a mask of the list is beyond the device's
abbrev pub has_mask_refused : CapsParts → CapData → Bool
has_mask_refused device (caps.Selectors (Good list)) = list_any (is_mask_refused device.selectors) list.items
has_mask_refused device _ = false

-- an action byte is neither of the two
abbrev pub has_other_action : CapData → Bool
has_other_action (caps.Actions actions) = actions.other
has_other_action _ = false

-- the first fault of a capability that the driver wants to set
unfoldable pub cap_fault : CapsParts → CapData → Option CapErr
cap_fault device wanted =
    if is_id_unknown wanted then Some faults.Id
    else (if has_limit_above device wanted then Some faults.Above
    else (if has_type_refused device wanted then Some faults.SelectorType
    else (if has_mask_refused device wanted then Some faults.Mask
    else (if has_other_action wanted then Some faults.Action else None))))

-- ---- what a set leaves

-- the list isn't odd, and its types rise strictly
abbrev pub IsRising : RawList → Type 0
IsRising (Good list) = IsStrictlyIncreasing (codes_of list.items)
IsRising Odd = ⊥

-- a capability that a driver can have
abbrev pub IsSettable : CapData → Type 0
IsSettable (caps.Limits limits) = ⊤
IsSettable (caps.Selectors list) = IsRising list
IsSettable (caps.Actions actions) = ⊤
IsSettable (caps.Other id) = ⊥

-- with these selectors in place of the driver's; an odd list has none to take their place
abbrev pub with_selectors : DriverParts → RawList → DriverParts
with_selectors driver (Good list) = record driver { selectors = list.items }
with_selectors driver Odd = driver

-- with one capability replaced, and the others as they were
abbrev pub with_cap : DriverParts → CapData → DriverParts
with_cap driver (caps.Limits limits) = record driver { limits = limits }
with_cap driver (caps.Selectors list) = with_selectors driver list
with_cap driver (caps.Actions actions) = record driver { drops = actions.drop; queues = actions.queue }
with_cap driver (caps.Other id) = driver

-- what the driver set is within what the device offers
pub record IsDriverWithin (device : CapsParts) (driver : DriverParts) : Type 0 where
  pub limits : AtMost driver.limits device.limits
  pub selectors : AreSelectors driver.selectors

-- each selector of a list is of a type that a capability has, and its mask isn't beyond that one's
pub record AreAllowed (have list : List SelectorParts) : Type 0 where
  pub known : list_any (is_type_missing have) list ≡ false
  pub masks : list_any (is_mask_refused have) list ≡ false
