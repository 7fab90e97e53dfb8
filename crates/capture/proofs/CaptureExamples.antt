-- Worked examples of the definitions: a capture of one frame, 54 bytes, in both byte orders, and faulty ones.
use Rattle.std.proofs.Common.{◌≡◌, ℕ, List, [], ◌∷◌, ◌++◌, take, Ok, Err, refl}
use Rattle.byte_numbers.specs.Numbers.{le16_at, le32_at, be16_at, be32_at}
use Rattle.capture.specs.declared.error.CaptureErr.TheVariants.{Truncated, Magic, Version, LinkType, TooLong}
use Rattle.capture.specs.FileHeaders.{number16_at, number32_at, is_version_2_4, link_type, kind_of_magic, checked_header, file_header}
use Rattle.capture.specs.Records.{captured_length, frame_of, records_of}
use Rattle.capture.specs.Captures.{capture_of, header_text, record_head, record_text, capture_text}

-- the frame: to all, from a local address, of type 0x0800
frame : List ℕ
frame = 0xff ∷ 0xff ∷ 0xff ∷ 0xff ∷ 0xff ∷ 0xff ∷ 2 ∷ 0 ∷ 0 ∷ 0 ∷ 0 ∷ 1 ∷ 8 ∷ 0 ∷ []

-- its record, with the time 0 and its length in both numbers, little endian
record_little : ℕ → ℕ → List ℕ
record_little low third = 0 ∷ 0 ∷ 0 ∷ 0 ∷ 0 ∷ 0 ∷ 0 ∷ 0 ∷ low ∷ 0 ∷ third ∷ 0 ∷ 14 ∷ 0 ∷ 0 ∷ 0 ∷ []

-- the header of the little-endian form that counts microseconds, with a version, and both halves of the link type
header_little : ℕ → ℕ → ℕ → List ℕ
header_little minor link upper = 0xd4 ∷ 0xc3 ∷ 0xb2 ∷ 0xa1 ∷ 2 ∷ 0 ∷ minor ∷ 0 ∷ 0 ∷ 0 ∷ 0 ∷ 0 ∷ 0 ∷ 0 ∷ 0 ∷ 0 ∷ 0 ∷ 0 ∷ 4 ∷ 0 ∷ link ∷ 0 ∷ upper ∷ 0 ∷ []

-- the big-endian form that counts nanoseconds
header_big : List ℕ
header_big = 0xa1 ∷ 0xb2 ∷ 0x3c ∷ 0x4d ∷ 0 ∷ 2 ∷ 0 ∷ 4 ∷ 0 ∷ 0 ∷ 0 ∷ 0 ∷ 0 ∷ 0 ∷ 0 ∷ 0 ∷ 0 ∷ 4 ∷ 0 ∷ 0 ∷ 0 ∷ 0 ∷ 0 ∷ 1 ∷ []

record_big : List ℕ
record_big = 0 ∷ 0 ∷ 0 ∷ 0 ∷ 0 ∷ 0 ∷ 0 ∷ 0 ∷ 0 ∷ 0 ∷ 0 ∷ 14 ∷ 0 ∷ 0 ∷ 0 ∷ 14 ∷ []

-- the capture of the frame
one : List ℕ
one = header_little 4 1 0 ++ (record_little 14 0 ++ frame)

read : capture_of one ≡ Ok (frame ∷ [])
unfolding one frame record_little header_little capture_of file_header checked_header kind_of_magic is_version_2_4 link_type number16_at number32_at le16_at le32_at be16_at be32_at records_of frame_of captured_length
read = refl

read_big : capture_of (header_big ++ (record_big ++ frame)) ≡ Ok (frame ∷ [])
unfolding frame header_big record_big capture_of file_header checked_header kind_of_magic is_version_2_4 link_type number16_at number32_at le16_at le32_at be16_at be32_at records_of frame_of captured_length
read_big = refl

-- cut within the header, behind it, within the record's first bytes, and within the frame
cut_header : capture_of (take 23 one) ≡ Err (Truncated 0)
unfolding one frame record_little header_little capture_of file_header checked_header kind_of_magic is_version_2_4 link_type number16_at number32_at le16_at le32_at be16_at be32_at records_of frame_of captured_length
cut_header = refl

no_frame : capture_of (take 24 one) ≡ Ok []
unfolding one frame record_little header_little capture_of file_header checked_header kind_of_magic is_version_2_4 link_type number16_at number32_at le16_at le32_at be16_at be32_at records_of frame_of captured_length
no_frame = refl

cut_record : capture_of (take 25 one) ≡ Err (Truncated 24)
unfolding one frame record_little header_little capture_of file_header checked_header kind_of_magic is_version_2_4 link_type number16_at number32_at le16_at le32_at be16_at be32_at records_of frame_of captured_length
cut_record = refl

cut_frame : capture_of (take 53 one) ≡ Err (Truncated 24)
unfolding one frame record_little header_little capture_of file_header checked_header kind_of_magic is_version_2_4 link_type number16_at number32_at le16_at le32_at be16_at be32_at records_of frame_of captured_length
cut_frame = refl

-- a second record that is cut has its own offset
cut_second : capture_of (one ++ (0 ∷ [])) ≡ Err (Truncated 54)
unfolding one frame record_little header_little capture_of file_header checked_header kind_of_magic is_version_2_4 link_type number16_at number32_at le16_at le32_at be16_at be32_at records_of frame_of captured_length
cut_second = refl

-- a captured length of 262,158, and one of 262,144, whose frame isn't there
too_long : capture_of (header_little 4 1 0 ++ (record_little 14 4 ++ frame)) ≡ Err (TooLong 24)
unfolding frame record_little header_little capture_of file_header checked_header kind_of_magic is_version_2_4 link_type number16_at number32_at le16_at le32_at be16_at be32_at records_of frame_of captured_length
too_long = refl

longest : capture_of (header_little 4 1 0 ++ (record_little 0 4 ++ frame)) ≡ Err (Truncated 24)
unfolding frame record_little header_little capture_of file_header checked_header kind_of_magic is_version_2_4 link_type number16_at number32_at le16_at le32_at be16_at be32_at records_of frame_of captured_length
longest = refl

-- another magic, version or link type; the upper half of the link type's number is ignored
other_magic : capture_of (0 ∷ one) ≡ Err Magic
unfolding one frame record_little header_little capture_of file_header checked_header kind_of_magic is_version_2_4 link_type number16_at number32_at le16_at le32_at be16_at be32_at records_of frame_of captured_length
other_magic = refl

other_version : capture_of (header_little 3 1 0) ≡ Err Version
unfolding header_little capture_of file_header checked_header kind_of_magic is_version_2_4 link_type number16_at number32_at le16_at le32_at be16_at be32_at records_of
other_version = refl

other_link : capture_of (header_little 4 2 0) ≡ Err LinkType
unfolding header_little capture_of file_header checked_header kind_of_magic is_version_2_4 link_type number16_at number32_at le16_at le32_at be16_at be32_at records_of
other_link = refl

upper_half : capture_of (header_little 4 1 9) ≡ Ok []
unfolding header_little capture_of file_header checked_header kind_of_magic is_version_2_4 link_type number16_at number32_at le16_at le32_at be16_at be32_at records_of
upper_half = refl

-- what is written of the frame is that capture
written : capture_text (frame ∷ []) ≡ one
unfolding one frame record_little header_little capture_text header_text record_text record_head
written = refl
