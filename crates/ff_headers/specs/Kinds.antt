-- The kinds of header that a selector names: their type codes and sizes.
use Rattle.std.specs.Prelude.{ℕ, Option, Some, None, if◌then◌else◌, ◌==◌}
use Rattle.ff_headers.specs.declared.kind.Kind.{Kind}
use Rattle.ff_headers.specs.declared.kind.Kind.TheVariants.{Eth, Ipv4, Ipv6, Tcp, Udp}

-- the type byte of a selector of the kind (virtio_net_ff.h, VIRTIO_NET_FF_MASK_TYPE_*)
abbrev pub kind_code : Kind → ℕ
kind_code Eth = 1
kind_code Ipv4 = 2
kind_code Ipv6 = 3
kind_code Tcp = 4
kind_code Udp = 5

-- the bytes of the header, without options (IEEE 802.3; RFC 791, 8200, 9293 and 768)
abbrev pub kind_size : Kind → ℕ
kind_size Eth = 14
kind_size Ipv4 = 20
kind_size Ipv6 = 40
kind_size Tcp = 20
kind_size Udp = 8

-- the kind whose type byte is `code`
abbrev pub kind_of_code : ℕ → Option Kind
kind_of_code code =
    if code == 1 then Some Eth
    else (if code == 2 then Some Ipv4
    else (if code == 3 then Some Ipv6
    else (if code == 4 then Some Tcp
    else (if code == 5 then Some Udp else None))))
