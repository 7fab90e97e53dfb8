-- Numbers and addresses at worked examples.
use Rattle.std.proofs.Common.{◌≡◌, Some, None, Ok, Err, codes, refl}
use Rattle.std.specs.Fmt.{digits}
use Rattle.vnff_base.specs.Numbers.{number_of}
use Rattle.ntuple_text.specs.Addresses.{mac_of, ipv4_of, ipv6_of, groups_of, address_with_gap, last_groups}
use Rattle.ntuple_text.specs.Numerals.{hex_number, numeral_of, numeral_up_to}
use Rattle.ntuple_text.specs.Pieces.{piece_of, pieces_of}
use Rattle.ntuple_text.specs.declared.error.Fault.TheVariants.{Number, Octal}

padded_hex : numeral_of (codes "0X00fF") ≡ Ok 255
unfolding numeral_of hex_number
padded_hex = refl

no_digit : numeral_of (codes "0x") ≡ Err Number
unfolding numeral_of hex_number
no_digit = refl

octal : numeral_of (codes "08x") ≡ Err Octal
unfolding numeral_of
octal = refl

zero_is : numeral_of (codes "0") ≡ Ok 0
unfolding numeral_of number_of digits
zero_is = refl

too_large : numeral_of (codes "0x10000000000000000") ≡ Err Number
unfolding numeral_of hex_number
too_large = refl

above_range : numeral_up_to 255 (codes "256") ≡ Err Number
unfolding numeral_up_to numeral_of number_of digits
above_range = refl

short_groups : mac_of (codes "2:0:0:0:0:1") ≡ Some 0x020000000001
unfolding mac_of pieces_of piece_of hex_number
short_groups = refl

five_groups : mac_of (codes "2:0:0:0:1") ≡ None
unfolding mac_of pieces_of piece_of hex_number
five_groups = refl

long_group : mac_of (codes "002:0:0:0:0:1") ≡ None
unfolding mac_of pieces_of piece_of hex_number
long_group = refl

dotted : ipv4_of (codes "10.0.0.7") ≡ Some 0x0a000007
unfolding ipv4_of pieces_of piece_of number_of digits
dotted = refl

zero_in_front : ipv4_of (codes "10.0.0.07") ≡ None
unfolding ipv4_of pieces_of piece_of number_of digits
zero_in_front = refl

above_byte : ipv4_of (codes "256.0.0.0") ≡ None
unfolding ipv4_of pieces_of piece_of number_of digits
above_byte = refl

loopback : ipv6_of (codes "::1") ≡ Some 1
unfolding ipv6_of address_with_gap groups_of last_groups pieces_of piece_of hex_number
loopback = refl

eight_groups : ipv6_of (codes "1:2:3:4:5:6:7:8") ≡ Some 0x00010002000300040005000600070008
unfolding ipv6_of groups_of last_groups pieces_of piece_of hex_number
eight_groups = refl

one_zero_group : ipv6_of (codes "1:2:3:4:5:6:7::") ≡ Some 0x00010002000300040005000600070000
unfolding ipv6_of address_with_gap groups_of last_groups pieces_of piece_of hex_number
one_zero_group = refl

no_zero_group : ipv6_of (codes "1:2:3:4::5:6:7:8") ≡ None
unfolding ipv6_of address_with_gap groups_of last_groups pieces_of piece_of hex_number
no_zero_group = refl

ipv4_tail : ipv6_of (codes "::ffff:1.2.3.4") ≡ Some 0xffff01020304
unfolding ipv6_of address_with_gap groups_of last_groups ipv4_of pieces_of piece_of hex_number number_of digits
ipv4_tail = refl

ipv4_front : ipv6_of (codes "1.2.3.4::") ≡ None
unfolding ipv6_of address_with_gap
ipv4_front = refl

two_gaps : ipv6_of (codes "1::2::3") ≡ None
unfolding ipv6_of address_with_gap groups_of last_groups pieces_of piece_of hex_number
two_gaps = refl

three_colons : ipv6_of (codes ":::") ≡ None
unfolding ipv6_of address_with_gap groups_of last_groups pieces_of piece_of hex_number
three_colons = refl
