-- The header of a capture file, after the published pcap 2.4 format. Its numbers are in the byte order that the file's
-- writer chose, which its first four bytes tell, with the unit of time.
use Rattle.std.specs.Prelude.{◌≡◌, ℕ, ◌%◌, ◌==◌, ◌&&◌, Bool, true, false, if◌then◌else◌, nat_lt, List, [], ◌∷◌, length, take, Option, Some, None, Result, Ok, Err}
use Rattle.std.specs.Str.{bytes_eq}
use Rattle.byte_numbers.specs.Numbers.{le16_at, le32_at, be16_at, be32_at}
use Rattle.capture.specs.Sizes.{file_header_size, link_type_count}
use Rattle.capture.specs.declared.error.CaptureErr.{CaptureErr}
use Rattle.capture.specs.declared.error.CaptureErr.TheVariants.{Truncated, Magic, Version, LinkType}
use Rattle.capture.specs.declared.header.CaptureHeader.{CaptureHeader}

-- the 16-bit number at a place, in the file's byte order
unfoldable pub number16_at : Bool → List ℕ → ℕ → ℕ
number16_at big bytes place = if big then be16_at bytes place else le16_at bytes place

-- the 32-bit number at a place, in the file's byte order
unfoldable pub number32_at : Bool → List ℕ → ℕ → ℕ
number32_at big bytes place = if big then be32_at bytes place else le32_at bytes place

-- the first four bytes of a file in that byte order, which counts nanoseconds or microseconds
abbrev pub magic : Bool → Bool → List ℕ
magic false false = 0xd4 ∷ 0xc3 ∷ 0xb2 ∷ 0xa1 ∷ []
magic false true = 0x4d ∷ 0x3c ∷ 0xb2 ∷ 0xa1 ∷ []
magic true false = 0xa1 ∷ 0xb2 ∷ 0xc3 ∷ 0xd4 ∷ []
magic true true = 0xa1 ∷ 0xb2 ∷ 0x3c ∷ 0x4d ∷ []

-- the version is 2.4
unfoldable pub is_version_2_4 : Bool → List ℕ → Bool
is_version_2_4 big bytes = (number16_at big bytes 4 == 2) && (number16_at big bytes 6 == 4)

-- the link type, the low 16 bits of the header's last number
unfoldable pub link_type : Bool → List ℕ → ℕ
link_type big bytes = number32_at big bytes 20 % link_type_count

-- Good header: 24 bytes with a known magic, version 2.4 and the link type of Ethernet. The other numbers are ignored:
-- the zone, the accuracy of times, and how many bytes of each frame were kept.
pub record IsHeader (header : CaptureHeader) (bytes : List ℕ) : Type 0 where
  pub size : length bytes ≡ file_header_size
  pub magic : take 4 bytes ≡ magic header.big header.nanos
  pub version : is_version_2_4 header.big bytes ≡ true
  pub link_type : link_type header.big bytes ≡ 1

-- what the first four bytes tell
unfoldable pub kind_of_magic : List ℕ → Option CaptureHeader
kind_of_magic four =
    if bytes_eq four (magic false false) then Some (record { big = false; nanos = false })
    else if bytes_eq four (magic false true) then Some (record { big = false; nanos = true })
    else if bytes_eq four (magic true false) then Some (record { big = true; nanos = false })
    else if bytes_eq four (magic true true) then Some (record { big = true; nanos = true })
    else None

-- a header whose byte order is known, or its first fault
unfoldable pub checked_header : List ℕ → Option CaptureHeader → Result CaptureHeader CaptureErr
checked_header bytes None = Err Magic
checked_header bytes (Some header) =
    if is_version_2_4 header.big bytes then (if link_type header.big bytes == 1 then Ok header else Err LinkType)
    else Err Version

-- the header that bytes begin with, or its first fault, in the order of its bytes
unfoldable pub file_header : List ℕ → Result CaptureHeader CaptureErr
file_header bytes =
    if nat_lt (length bytes) file_header_size then Err (Truncated 0)
    else checked_header bytes (kind_of_magic (take 4 bytes))
