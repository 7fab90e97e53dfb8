-- The table that is drawn from a seed, and the device that it is for. This project's own.
use Rattle.std.specs.Prelude.{ℕ, ◌+◌, ◌*◌, ◌==◌, if◌then◌else◌, List, map, Option, Some, None}
use Rattle.cap_table.specs.Caps.{CapsParts, all_selectors, greatest_limits, most_pairs}
use Rattle.ntuple_text.specs.Spellable.{AreSpelled}
use Rattle.ntuple_text.specs.TableMaps.{TableMap, location_count}
use Rattle.ntuple_text.specs.declared.spec.Flow.TheVariants.{Ip4, Tcp4, Udp4}
use Rattle.ntuple_text.specs.declared.spec.Part.{Part}
use Rattle.ntuple_text.specs.declared.spec.Spec.{Spec}
use Rattle.ntuple_text.specs.declared.spec.TableDo.{TableDo}
use Rattle.ntuple_text.specs.declared.spec.TableDo.TheVariants.{Drop, Queue}
use Rattle.generated_load.specs.Draws.{draw, each_drawn}
use Rattle.generated_load.specs.declared.table.Criteria.{Criteria}

-- ---- what a spec compares

-- every bit of a field
abbrev pub whole : ℕ → Option Part
whole value = Some (record { value = value; skip = 0 })

-- the IPv4 address 10.SECOND.THIRD.FOURTH
abbrev pub private_address : ℕ → ℕ → ℕ → ℕ
private_address second third fourth = ((10 * 256 + second) * 256 + third) * 256 + fourth

-- the fields of a spec's flow spell what it compares
abbrev pub IsSpelled : Criteria → Type 0
IsSpelled criteria = AreSpelled criteria.flow criteria.src criteria.dst None None None criteria.dst_port

-- `udp4 dst-port PORT`
unfoldable pub udp_criteria : ℕ → ℕ × Criteria
udp_criteria x =
    let port = draw x 4096 in
    (port.0, record { flow = Udp4; src = None; dst = None; dst_port = whole port.1 })

-- `tcp4 src-ip 10.0.NET.0 m 0.0.0.255 dst-port PORT`
unfoldable pub tcp_criteria : ℕ → ℕ × Criteria
tcp_criteria x =
    let net = draw x 16 in
    let port = draw net.0 1024 in (
      port.0,
      record {
        flow = Tcp4;
        src = Some (record { value = private_address 0 net.1 0; skip = 255 });
        dst = None;
        dst_port = whole port.1;
      },
    )

-- `ip4 dst-ip 10.1.NET.HOST`
unfoldable pub ip_criteria : ℕ → ℕ × Criteria
ip_criteria x =
    let net = draw x 16 in
    let host = draw net.0 256 in
    (host.0, record { flow = Ip4; src = None; dst = whole (private_address 1 net.1 host.1); dst_port = None })

-- one of the three
unfoldable pub drawn_criteria : ℕ → ℕ × Criteria
drawn_criteria x =
    let kind = draw x 3 in
    if kind.1 == 0 then udp_criteria kind.0 else if kind.1 == 1 then tcp_criteria kind.0 else ip_criteria kind.0

-- ---- specs

-- a drop, or the queue of the number
abbrev pub action_at : ℕ → TableDo
action_at number = if number == 16 then Drop else Queue number

-- a spec at a location
abbrev pub spec_with : Criteria → TableDo → ℕ → Spec
spec_with criteria action loc = record {
  flow = criteria.flow;
  src = criteria.src;
  dst = criteria.dst;
  proto = None;
  class = None;
  src_port = None;
  dst_port = criteria.dst_port;
  action = action;
  loc = loc;
}

-- the spec at a location: what it compares is drawn first, and then what it does
unfoldable pub drawn_spec : ℕ → ℕ → ℕ × Spec
drawn_spec loc x =
    let criteria = drawn_criteria x in
    let number = draw criteria.0 17 in
    (number.0, spec_with criteria.1 (action_at number.1) loc)

-- ---- a table

-- a spec for each location, by rising location, and the state after them
unfoldable pub drawn_specs : ℕ → ℕ × List Spec
drawn_specs seed = each_drawn drawn_spec location_count seed

-- the table of a seed
unfoldable pub drawn_table : ℕ → TableMap
drawn_table seed = record { pairs = most_pairs; slots = map Some (drawn_specs seed).1 }

-- the device that it is for, the greatest one: `device 16 16 64 1024 1024 255 3`
abbrev pub load_caps : CapsParts
load_caps = record { pairs = most_pairs; limits = greatest_limits; selectors = all_selectors }
