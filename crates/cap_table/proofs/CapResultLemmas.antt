-- A capability has at most one selector of each type.
use Rattle.std.proofs.Common.{◌≡◌, ◌+◌, ◌≤◌, arith, true, List, [], ◌∷◌, length}
use Rattle.ff_headers.specs.declared.kind.Kind.{Kind}
use Rattle.ff_headers.specs.declared.kind.Kind.TheVariants.{Eth, Ipv4, Ipv6, Tcp, Udp}
use Rattle.ff_headers.specs.Kinds.{kind_code}
use Rattle.ff_headers.specs.SelectorParts.{SelectorParts}
use Rattle.ff_headers.specs.Shapes.{codes_of, rises}
use Rattle.ff_headers.proofs.Rising.{rises-from_increasing, rises_parts}
use Rattle.admin_wire.specs.Codes.{most_selectors}
use Rattle.cap_table.specs.Caps.{AreSelectors}

code_range : (kind : Kind) → (1 ≤ kind_code kind) × (kind_code kind ≤ 5)
code_range Eth = (omega arith, omega arith)
code_range Ipv4 = (omega arith, omega arith)
code_range Ipv6 = (omega arith, omega arith)
code_range Tcp = (omega arith, omega arith)
code_range Udp = (omega arith, omega arith)

-- types that rise from a first one leave room for those above it
above_first : (s : SelectorParts) (list : List SelectorParts) → rises (codes_of (s ∷ list)) ≡ true
    → length list + kind_code s.kind ≤ 5
above_first s [] rising = omega (arith, (code_range s.kind).1)
above_first s (t ∷ list) rising =
    let parts = rises_parts (kind_code s.kind) (kind_code t.kind) (codes_of list) rising in
    omega (arith, parts.0, above_first t list parts.1)

pub few_selectors : (list : List SelectorParts) → AreSelectors list → length list ≤ most_selectors
few_selectors [] good = omega arith
few_selectors (s ∷ list) good =
    omega (arith, (code_range s.kind).0, above_first s list (rises-from_increasing (codes_of (s ∷ list)) good.rising))
