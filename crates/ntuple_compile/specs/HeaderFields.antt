-- The fields of headers that a spec of a table can name, beside those by which a frame's headers are found. Where they
-- lie is IEEE 802.3, RFC 791, RFC 8200, RFC 9293 and RFC 768.
use Rattle.ff_headers.specs.Fields.{field}
use Rattle.ff_headers.specs.declared.field.Field.{Field}

-- the address that a frame is for, and the one that it comes from (IEEE 802.3)
abbrev pub ether_destination : Field
ether_destination = field 0 48

abbrev pub ether_source : Field
ether_source = field 48 48

-- the type of service of an IPv4 datagram, and its addresses (RFC 791)
abbrev pub ipv4_service : Field
ipv4_service = field 8 8

abbrev pub ipv4_source : Field
ipv4_source = field 96 32

abbrev pub ipv4_destination : Field
ipv4_destination = field 128 32

-- the traffic class of an IPv6 packet, which straddles two bytes, and its addresses (RFC 8200)
abbrev pub ipv6_class : Field
ipv6_class = field 4 8

abbrev pub ipv6_source : Field
ipv6_source = field 64 128

abbrev pub ipv6_destination : Field
ipv6_destination = field 192 128

-- the ports, which stand alike in a TCP and in a UDP header (RFC 9293, RFC 768)
abbrev pub source_port : Field
source_port = field 0 16

abbrev pub destination_port : Field
destination_port = field 16 16
