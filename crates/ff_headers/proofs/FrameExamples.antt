-- The headers of worked frames.
use Rattle.std.proofs.Common.{◌≡◌, ℕ, Bool, true, false, List, [], ◌∷◌, ◌++◌, map, take, replicate, Some, None, refl}
use Rattle.std.specs.Prelude.{is_some}
use Rattle.ff_headers.specs.Frames.{header_bytes, header_at, eth_field, ip_field, names_ip, has_ipv4, ip_end, carries, headers_of}
use Rattle.ff_headers.specs.declared.kind.Kind.TheVariants.{Eth, Ipv4, Ipv6, Tcp, Udp}

-- ---- frames

-- an Ethernet header with a type of two bytes
ethernet : ℕ → ℕ → List ℕ
ethernet high low = 2 ∷ 0 ∷ 0 ∷ 0 ∷ 0 ∷ 0xaa ∷ 2 ∷ 0 ∷ 0 ∷ 0 ∷ 0 ∷ 0xbb ∷ high ∷ low ∷ []

-- an IPv4 header by its first byte (version and length), the two bytes of the fragment, and the protocol: from 10.0.0.7 to
-- 192.168.0.1
ipv4 : ℕ → ℕ → ℕ → ℕ → List ℕ
ipv4 first high low protocol =
    first ∷ 0 ∷ 0 ∷ 0x28 ∷ 0 ∷ 0 ∷ high ∷ low ∷ 0x40 ∷ protocol ∷ 0 ∷ 0 ∷ 10 ∷ 0 ∷ 0 ∷ 7 ∷ 192 ∷ 168 ∷ 0 ∷ 1 ∷ []

-- an IPv6 header by its first byte (version) and next header
ipv6 : ℕ → ℕ → List ℕ
ipv6 first next = first ∷ 0 ∷ 0 ∷ 0 ∷ 0 ∷ 20 ∷ next ∷ 64 ∷ replicate 32 1

-- the ports 12345 and 80, and 16 bytes
tcp : List ℕ
tcp = 0x30 ∷ 0x39 ∷ 0 ∷ 80 ∷ replicate 16 0

-- which kinds of header a frame has: Ethernet, IPv4, IPv6, TCP, UDP
headers_had : List ℕ → List Bool
headers_had frame = map (λ kind. is_some (header_at (headers_of frame) kind)) (Eth ∷ Ipv4 ∷ Ipv6 ∷ Tcp ∷ Udp ∷ [])

over_ipv4 : ℕ → ℕ → ℕ → ℕ → List ℕ → List ℕ
over_ipv4 first high low protocol rest = ethernet 8 0 ++ ipv4 first high low protocol ++ rest

over_ipv6 : ℕ → ℕ → List ℕ → List ℕ
over_ipv6 first next rest = ethernet 0x86 0xdd ++ ipv6 first next ++ rest

-- ---- the bytes that are held

tcp_over_ipv4 : headers_of (over_ipv4 0x45 0 0 6 tcp) ≡ header_bytes (Some (ethernet 8 0)) (Some (ipv4 0x45 0 0 6)) None (Some tcp) None
unfolding headers_of has_ipv4 names_ip carries ip_end eth_field ip_field over_ipv4 ethernet ipv4 tcp
tcp_over_ipv4 = refl

-- four bytes of options stand between the headers
behind_options : headers_of (over_ipv4 0x46 0 0 6 (replicate 4 0 ++ tcp)) ≡ header_bytes (Some (ethernet 8 0)) (Some (ipv4 0x46 0 0 6)) None (Some tcp) None
unfolding headers_of has_ipv4 names_ip carries ip_end eth_field ip_field over_ipv4 ethernet ipv4 tcp
behind_options = refl

udp_over_ipv6 : headers_of (over_ipv6 0x60 17 tcp) ≡ header_bytes (Some (ethernet 0x86 0xdd)) None (Some (ipv6 0x60 17)) None (Some (take 8 tcp))
unfolding headers_of has_ipv4 names_ip carries ip_end eth_field ip_field over_ipv6 ethernet ipv6 tcp
udp_over_ipv6 = refl

-- ---- which are held; of several frames each misses one thing

ethernet_alone : map headers_had (ethernet 8 0 ∷ ethernet 8 6 ∷ take 13 (ethernet 8 0) ∷ []) ≡ (true ∷ replicate 4 false) ∷ (true ∷ replicate 4 false) ∷ replicate 5 false ∷ []
unfolding headers_had headers_of has_ipv4 names_ip carries ip_end eth_field ip_field ethernet
ethernet_alone = refl

-- another type, 33 bytes, another version, a length of four words, and options that are cut
no_ipv4 : map headers_had ((ethernet 8 1 ++ ipv4 0x45 0 0 6 ++ tcp) ∷ take 33 (over_ipv4 0x45 0 0 6 tcp) ∷ over_ipv4 0x55 0 0 6 tcp ∷ over_ipv4 0x44 0 0 6 tcp ∷ take 37 (over_ipv4 0x46 0 0 6 tcp) ∷ [])
    ≡ replicate 5 (true ∷ replicate 4 false)
unfolding headers_had headers_of has_ipv4 names_ip carries ip_end eth_field ip_field over_ipv4 ethernet ipv4 tcp
no_ipv4 = refl

-- 53 bytes, another protocol, and a later fragment
ipv4_alone : map headers_had (take 53 (over_ipv4 0x45 0 0 6 tcp) ∷ over_ipv4 0x45 0 0 1 tcp ∷ over_ipv4 0x45 0 1 6 tcp ∷ over_ipv4 0x45 0x10 0 6 tcp ∷ [])
    ≡ replicate 4 (true ∷ true ∷ replicate 3 false)
unfolding headers_had headers_of has_ipv4 names_ip carries ip_end eth_field ip_field over_ipv4 ethernet ipv4 tcp
ipv4_alone = refl

-- the first fragment of several has ports; UDP's header has 8 bytes
ipv4_with_ports : map headers_had (over_ipv4 0x45 0x20 0 6 tcp ∷ take 42 (over_ipv4 0x45 0 0 17 tcp) ∷ take 41 (over_ipv4 0x45 0 0 17 tcp) ∷ [])
    ≡ (true ∷ true ∷ false ∷ true ∷ false ∷ []) ∷ (true ∷ true ∷ false ∷ false ∷ true ∷ []) ∷ (true ∷ true ∷ replicate 3 false) ∷ []
unfolding headers_had headers_of has_ipv4 names_ip carries ip_end eth_field ip_field over_ipv4 ethernet ipv4 tcp
ipv4_with_ports = refl

-- another type, 53 bytes, and another version
no_ipv6 : map headers_had ((ethernet 0x86 0xdc ++ ipv6 0x60 6 ++ tcp) ∷ take 53 (over_ipv6 0x60 6 tcp) ∷ over_ipv6 0x40 6 tcp ∷ [])
    ≡ replicate 3 (true ∷ replicate 4 false)
unfolding headers_had headers_of has_ipv4 names_ip carries ip_end eth_field ip_field over_ipv6 ethernet ipv6 tcp
no_ipv6 = refl

-- 73 bytes, and a further header of IPv6
ipv6_alone : map headers_had (take 73 (over_ipv6 0x60 6 tcp) ∷ over_ipv6 0x60 44 tcp ∷ []) ≡ replicate 2 (true ∷ false ∷ true ∷ false ∷ false ∷ [])
unfolding headers_had headers_of has_ipv4 names_ip carries ip_end eth_field ip_field over_ipv6 ethernet ipv6 tcp
ipv6_alone = refl
