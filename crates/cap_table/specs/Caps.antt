-- What a device offers and what its driver set of it: the device capabilities of the Virtio 1.4 draft for flow
-- filters (`VIRTIO_NET_FF_RESOURCE_CAP`, `.._SELECTOR_CAP`, `.._ACTION_CAP`). The ranges are this project's own.
use Rattle.std.specs.Prelude.{ℕ, ◌≤◌, Bool, true, false, ◌&&◌, ◌==◌, nat_lt, if◌then◌else◌, Option, List, [], ◌∷◌, map, replicate, All}
use Rattle.std.specs.List.{find, list_all, enumerate_from}
use Rattle.std.specs.List.Sorted.{IsStrictlyIncreasing}
use Rattle.std.specs.Option.{option_map_or}
use Rattle.ff_headers.specs.declared.kind.Kind.{Kind}
use Rattle.ff_headers.specs.declared.kind.Kind.TheVariants.{Eth, Ipv4, Ipv6, Tcp, Udp}
use Rattle.ff_headers.specs.declared.limits.Limits.{Limits}
use Rattle.ff_headers.specs.Kinds.{kind_code, kind_size}
use Rattle.ff_headers.specs.SelectorParts.{SelectorParts, IsWhole}
use Rattle.ff_headers.specs.Shapes.{codes_of}
use Rattle.ff_headers.specs.Fields.{is_allowed}
use Rattle.admin_wire.specs.Codes.{drop_action, queue_action}

-- the queue pairs, the limits on objects, and a selector for each header that can be selected, which allows some masks
pub record CapsParts : Type 0 where
  pub pairs : ℕ
  pub limits : Limits
  pub selectors : List SelectorParts

-- the limits, selectors and actions that the driver set
pub record DriverParts : Type 0 where
  pub limits : Limits
  pub selectors : List SelectorParts
  pub drops : Bool
  pub queues : Bool

-- each limit is at most the other's
pub record AtMost (some most : Limits) : Type 0 where
  pub groups : some.groups ≤ most.groups
  pub classifiers : some.classifiers ≤ most.classifiers
  pub rules : some.rules ≤ most.rules
  pub per_group : some.per_group ≤ most.per_group
  pub last_priority : some.last_priority ≤ most.last_priority
  pub selectors : some.selectors ≤ most.selectors

-- the queue pairs that a device has at most. This project's own.
abbrev pub most_pairs : ℕ
most_pairs = 16

-- what this project's device can have at most
abbrev pub greatest_limits : Limits
greatest_limits =
    record { groups = 16; classifiers = 64; rules = 1024; per_group = 1024; last_priority = 255; selectors = 3 }

-- the selectors of a capability: their types rise strictly, and their masks have their headers' sizes
pub record AreSelectors (selectors : List SelectorParts) : Type 0 where
  pub rising : IsStrictlyIncreasing (codes_of selectors)
  pub whole : All IsWhole selectors

-- the capabilities that a device can have: at least one queue pair and at most the most, and limits up to the greatest
pub record AreCaps (caps : CapsParts) : Type 0 where
  pub some_pair : 1 ≤ caps.pairs
  pub pairs : caps.pairs ≤ most_pairs
  pub limits : AtMost caps.limits greatest_limits
  pub selectors : AreSelectors caps.selectors

-- a mask of ones, any part of which may be asked for (`VIRTIO_NET_FF_MASK_F_PARTIAL_MASK`)
abbrev pub ones_selector : Kind → SelectorParts
ones_selector kind = record { kind = kind; flags = 1; mask = replicate (kind_size kind) 255 }

-- the selectors of a device for which none is given
abbrev pub all_selectors : List SelectorParts
all_selectors = map ones_selector (Eth ∷ Ipv4 ∷ Ipv6 ∷ Tcp ∷ Udp ∷ [])

-- every limit 0
abbrev pub no_limits : Limits
no_limits = record { groups = 0; classifiers = 0; rules = 0; per_group = 0; last_priority = 0; selectors = 0 }

-- before the driver sets anything
abbrev pub unset : DriverParts
unset = record { limits = no_limits; selectors = []; drops = false; queues = false }

-- the driver set all that the device offers
abbrev pub same_as : CapsParts → DriverParts
same_as caps = record { limits = caps.limits; selectors = caps.selectors; drops = true; queues = true }

-- the driver set the action of a byte
abbrev pub is_action_set : DriverParts → ℕ → Bool
is_action_set driver action =
    if action == drop_action then driver.drops
    else if action == queue_action then driver.queues
    else false

-- a capability's selector of a kind
abbrev pub selector_of_kind : Kind → List SelectorParts → Option SelectorParts
selector_of_kind kind have = find (λ one. kind_code one.kind == kind_code kind) have

-- A capability has the selector that stands at this place of a list: the place is within the limit on the list's
-- length, there is a selector of its kind, and that one allows its mask.
abbrev pub is_supported : ℕ → List SelectorParts → ℕ → SelectorParts → Bool
is_supported limit have place selector =
    nat_lt place limit && option_map_or (λ one. is_allowed one selector) (selector_of_kind selector.kind have) false

-- a capability has each selector of a list
abbrev pub are_supported : ℕ → List SelectorParts → List SelectorParts → Bool
are_supported limit have list = list_all (λ p. is_supported limit have p.0 p.1) (enumerate_from 0 list)
