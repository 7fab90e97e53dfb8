-- The words of a script's lines are read as what they spell.
use Rattle.std.proofs.Common.{◌≡◌, ℕ, suc, zero, ◌<◌, ◌≤◌, ◌^◌, true, ◌&&◌, List, length, nat_le, Some, None, Ok, refl, ap, ◌∙◌, arith, if◌then◌else◌}
use Rattle.std.specs.Fmt.{decimal}
use Rattle.std.specs.Option.{ok_or, option_and_then}
use Rattle.std.proofs.lemmas.Bool.{and_from, cond-true, le-leb}
use Rattle.ff_headers.specs.declared.kind.Kind.{Kind}
use Rattle.ff_headers.specs.declared.kind.Kind.TheVariants.{Eth, Ipv4, Ipv6, Tcp, Udp}
use Rattle.byte_numbers.specs.Bytes.{IsBytes}
use Rattle.vnff_base.specs.Hex.{hex_text}
use Rattle.vnff_base.proofs.HexLemmas.{hex_bytes-hex_text}
use Rattle.vnff_base.proofs.NumberLemmas.{number_of-decimal}
use Rattle.vnff_run.specs.DeviceLines.{start_of, start_word}
use Rattle.vnff_run.specs.SelectLines.{flags_named, kind_named, kind_word, mode_word}
use Rattle.vnff_run.specs.Words.{bytes_within, if_within, number_within}
use Rattle.vnff_run.specs.declared.error.Reason.{Reason}
use Rattle.cap_table.specs.declared.start.Start.{Start}
use Rattle.cap_table.specs.declared.start.Start.TheVariants.{Ready, Reset}

-- a number within its range
pub number-read : (reason : Reason) (low high n : ℕ) → low ≤ n → n ≤ high → n < 2 ^ 64 → number_within reason low high (decimal n) ≡ Ok n
unfolding number_within
number-read reason low high n least most small =
    let within : (nat_le low n && nat_le n high) ≡ true = and_from _ _ (le-leb low n least) (le-leb n high most) in
    ap (λ read. ok_or (option_and_then (λ m. if nat_le low m && nat_le m high then Some m else None) read) reason) (number_of-decimal (decimal n) n small refl) ∙ ap (λ found. ok_or found reason) (cond-true _ (Some n) None within)

-- bytes within their range
pub bytes-read : (reason : Reason) (low high : ℕ) (bytes : List ℕ) → IsBytes bytes → low ≤ length bytes → length bytes ≤ high → bytes_within reason low high (hex_text bytes) ≡ Ok bytes
unfolding bytes_within
bytes-read reason low high bytes good least most =
    let within : (nat_le low (length bytes) && nat_le (length bytes) high) ≡ true = and_from _ _ (le-leb low (length bytes) least) (le-leb (length bytes) high most) in
    ap (λ read. ok_or (option_and_then (if_within low high) read) reason) (hex_bytes-hex_text bytes good) ∙ ap (λ found. ok_or found reason) (cond-true _ (Some bytes) None within)

-- the word of a start, of a header, and of a flags byte
pub start-read : (start : Start) → start_of (start_word start) ≡ Ok start
unfolding start_of
start-read Ready = refl
start-read Reset = refl

pub kind-read : (kind : Kind) → kind_named (kind_word kind) ≡ Some kind
unfolding kind_named
kind-read Eth = refl
kind-read Ipv4 = refl
kind-read Ipv6 = refl
kind-read Tcp = refl
kind-read Udp = refl

pub flags-read : (flags : ℕ) → flags ≤ 1 → flags_named (mode_word flags) ≡ Some flags
unfolding flags_named
flags-read zero few = refl
flags-read (suc zero) few = refl
flags-read (suc (suc flags)) few = absurd (omega (arith, few))
