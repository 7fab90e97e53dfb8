-- Good shape of a list of selectors. The order of types, and that a list has no two IP and no two port headers, are
-- this project's own rules.
use Rattle.std.specs.Prelude.{◌≢◌, ℕ, Bool, ◌&&◌, not, List, [], map, nat_lt, ◌==◌, Option, Some, None, Result, Ok, Err, if◌then◌else◌, length, drop, nat_eq, Contains, All}
use Rattle.std.specs.List.{list_any, list_all, zip}
use Rattle.std.specs.List.Sorted.{IsStrictlyIncreasing}
use Rattle.std.specs.Option.{option_map_or}
use Rattle.ff_headers.specs.Kinds.{kind_code}
use Rattle.ff_headers.specs.SelectorParts.{SelectorParts, IsWhole}
use Rattle.ff_headers.specs.declared.kind.Kind.{Kind}
use Rattle.ff_headers.specs.declared.kind.Kind.TheVariants.{Ipv4, Ipv6, Tcp, Udp}
use Rattle.ff_headers.specs.declared.error.ShapeErr.{ShapeErr}
use Rattle.ff_headers.specs.declared.error.ShapeErr.TheVariants.{Empty, Order, BothIp, BothPorts}

-- the type bytes of the selectors, in order
abbrev pub codes_of : List SelectorParts → List ℕ
codes_of list = map (λ s. kind_code s.kind) list

-- some selector is of the kind
abbrev pub Names : List SelectorParts → Kind → Type 0
Names list kind = Contains (codes_of list) (kind_code kind)

-- one selector or more, with types that rise strictly, and neither both IP headers nor both headers with ports
pub record HasShape (list : List SelectorParts) : Type 0 where
  pub some_selector : list ≢ []
  pub rising : IsStrictlyIncreasing (codes_of list)
  pub one_ip : Names list Ipv4 → ¬ Names list Ipv6
  pub one_ports : Names list Tcp → ¬ Names list Udp

-- the selectors of a classifier: of good shape, with masks of their headers' sizes
pub record IsClassifier (list : List SelectorParts) : Type 0 where
  pub shape : HasShape list
  pub whole : All IsWhole list

-- whether each number is below the next
abbrev pub rises : List ℕ → Bool
rises codes = list_all (λ p. nat_lt p.0 p.1) (zip codes (drop 1 codes))

-- whether some selector is of the kind
abbrev pub has_kind : Kind → List SelectorParts → Bool
has_kind kind list = list_any (nat_eq (kind_code kind)) (codes_of list)

-- the first rule of good shape that the list breaks
unfoldable pub shape_fault : List SelectorParts → Option ShapeErr
shape_fault list =
    if length list == 0 then Some Empty
    else (if not (rises (codes_of list)) then Some Order
    else (if has_kind Ipv4 list && has_kind Ipv6 list then Some BothIp
    else (if has_kind Tcp list && has_kind Udp list then Some BothPorts else None)))

-- the list itself where it has good shape, or the first rule that it breaks
unfoldable pub shaped : List SelectorParts → Result (List SelectorParts) ShapeErr
shaped list = option_map_or (λ fault. Err fault) (shape_fault list) (Ok list)
