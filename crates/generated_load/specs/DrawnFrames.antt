-- The frames that are drawn from a seed, behind its table. This project's own; the layouts are those of IEEE 802.3,
-- RFC 791 and of the ports in RFC 768 and RFC 9293.
use Rattle.std.specs.Prelude.{ℕ, ◌/◌, ◌%◌, ◌==◌, if◌then◌else◌, List, [], ◌∷◌, ◌++◌, replicate}
use Rattle.generated_load.specs.Draws.{draw, each_drawn}
use Rattle.generated_load.specs.DrawnTables.{drawn_specs}
use Rattle.generated_load.specs.declared.frame.Datagram.{Datagram}

-- the two bytes of a port
abbrev pub port_bytes : ℕ → List ℕ
port_bytes port = port / 256 ∷ port % 256 ∷ []

-- an Ethernet header whose type is that of IPv4 and whose addresses are zero
abbrev pub ether_bytes : List ℕ
ether_bytes = replicate 12 0 ++ (0x08 ∷ 0x00 ∷ [])

-- an IPv4 header of 20 bytes and a total length of 40, without a checksum, from 10.0.NET.HOST to 10.1.NET.HOST
abbrev pub ip_bytes : Datagram → List ℕ
ip_bytes datagram =
    0x45 ∷ 0x00 ∷ 0x00 ∷ 0x28 ∷ 0x00 ∷ 0x00 ∷ 0x00 ∷ 0x00 ∷ 0x40 ∷ datagram.protocol ∷ 0x00 ∷ 0x00
    ∷ 10 ∷ 0 ∷ datagram.source_net ∷ datagram.source_host
    ∷ 10 ∷ 1 ∷ datagram.destination_net ∷ datagram.destination_host ∷ []

-- the 54 bytes of a frame: behind the ports stand 16 zero bytes
unfoldable pub frame_bytes : Datagram → List ℕ
frame_bytes datagram =
    ether_bytes
    ++ (ip_bytes datagram
    ++ (port_bytes datagram.source_port ++ (port_bytes datagram.destination_port ++ replicate 16 0)))

-- the protocol of TCP or that of UDP
abbrev pub protocol_at : ℕ → ℕ
protocol_at number = if number == 0 then 6 else 17

-- what a frame carries
unfoldable pub drawn_datagram : ℕ → ℕ × Datagram
drawn_datagram x =
    let protocol = draw x 2 in
    let source_net = draw protocol.0 16 in
    let source_host = draw source_net.0 256 in
    let destination_net = draw source_host.0 16 in
    let destination_host = draw destination_net.0 256 in
    let source_port = draw destination_host.0 65536 in
    let destination_port = draw source_port.0 4096 in (
      destination_port.0,
      record {
        protocol = protocol_at protocol.1;
        source_net = source_net.1;
        source_host = source_host.1;
        destination_net = destination_net.1;
        destination_host = destination_host.1;
        source_port = source_port.1;
        destination_port = destination_port.1;
      },
    )

-- a frame
unfoldable pub drawn_frame : ℕ → ℕ × List ℕ
drawn_frame x = let datagram = drawn_datagram x in (datagram.0, frame_bytes datagram.1)

-- the first frames of a seed, drawn behind its table
unfoldable pub drawn_frames : ℕ → ℕ → List (List ℕ)
drawn_frames seed count = (each_drawn (λ _. drawn_frame) count (drawn_specs seed).0).1
