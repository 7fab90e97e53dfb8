-- Captures that are read are a good header and a record for each frame, such captures are read, and what is written is one.
use Rattle.std.proofs.Common.{◌≡◌, ℕ, ◌≤◌, Bool, false, List, [], ◌∷◌, length, take, drop, Ok, All, refl, ap, sym, ◌∙◌, arith, ltb-false}
use Rattle.std.proofs.lemmas.List.{take-append-drop, length-take-le, drop_at, append_assoc}
use Rattle.std.proofs.lemmas.List.Elements.{All-head, All-tail, All-nil, All-cons}
use Rattle.std.proofs.lemmas.Nat.{from_le_bytes-to_le_bytes_4}
use Rattle.std.specs.List.{flat_map}
use Rattle.byte_numbers.specs.Numbers.{le16_at, le32_at, be16_at, be32_at}
use Rattle.capture.specs.declared.header.CaptureHeader.{CaptureHeader}
use Rattle.capture.specs.FileHeaders.{number16_at, number32_at, is_version_2_4, link_type, file_header, IsHeader}
use Rattle.capture.specs.Records.{captured_length, records_of, IsRecordHead, AreRecords}
use Rattle.capture.specs.Captures.{capture_of, IsCapture, header_text, record_head, record_text, capture_text}
use Rattle.capture.proofs.Choices.{fault_if-ok, bind_ok}
use Rattle.capture.proofs.CaptureLemmas.{capture_of-header}
use Rattle.capture.proofs.HeaderLaws.{file_header-good, good-file_header}
use Rattle.capture.proofs.RecordLaws.{records_of-are, are-records_of}

-- a header is whole where it is read
pub file_header-whole : (bytes : List ℕ) (header : CaptureHeader) → file_header bytes ≡ Ok header → 24 ≤ length bytes
unfolding file_header
file_header-whole bytes header good = ltb-false (length bytes) 24 (fault_if-ok _ _ _ _ good).0

pub capture_of-is : (bytes : List ℕ) (frames : List (List ℕ)) → capture_of bytes ≡ Ok frames → IsCapture bytes frames
unfolding capture_of
capture_of-is bytes frames read =
    let header = bind_ok _ _ frames read in
    let whole = file_header-whole bytes header.0 header.1 in
    let split = take-append-drop 24 bytes in
    let good = file_header-good (take 24 bytes) (drop 24 bytes) header.0 (length-take-le 24 bytes whole) (ap file_header split ∙ header.1) in
    (header.0, take 24 bytes, drop 24 bytes, good, sym split, records_of-are header.0.big 24 (drop 24 bytes) frames header.2)

pub is-capture_of : (bytes : List ℕ) (frames : List (List ℕ)) → IsCapture bytes frames → capture_of bytes ≡ Ok frames
is-capture_of bytes frames (kind, header, rest, good, split, records) =
    let read = ap file_header split ∙ good-file_header header rest kind good in
    let left = ap (drop 24) split ∙ drop_at header rest 24 good.size in
    capture_of-header bytes kind read ∙ ap (records_of kind.big 24) left ∙ are-records_of kind.big 24 rest frames records

-- the head of a record that is written
head-written : (frame : List ℕ) → length frame ≤ 262144 → IsRecordHead false (record_head (length frame)) frame
unfolding record_head captured_length number32_at le32_at
head-written frame within = record {
  size = refl;
  captured = from_le_bytes-to_le_bytes_4 (length frame) (omega arith);
  within = within;
}

records-written : (frames : List (List ℕ)) → All (λ frame. length frame ≤ 262144) frames → AreRecords false (flat_map record_text frames) frames
unfolding record_text
records-written [] short = refl
records-written (frame ∷ frames) short =
    (record_head (length frame), flat_map record_text frames, head-written frame (All-head (λ f. length f ≤ 262144) frame frames short), append_assoc (record_head (length frame)) frame (flat_map record_text frames), records-written frames (All-tail (λ f. length f ≤ 262144) frame frames short))

header-written : IsHeader (record { big = false; nanos = false }) header_text
unfolding header_text is_version_2_4 link_type number16_at number32_at le16_at le32_at be16_at be32_at
header-written = record { size = refl; magic = refl; version = refl; link_type = refl }

pub capture-written : (frames : List (List ℕ)) → All (λ frame. length frame ≤ 262144) frames → IsCapture (capture_text frames) frames
unfolding capture_text
capture-written frames short =
    (record { big = false; nanos = false }, header_text, flat_map record_text frames, header-written, refl, records-written frames short)

-- The frames of records are short, and so are those of a capture.
records-short : (big : Bool) (bytes : List ℕ) (frames : List (List ℕ)) → AreRecords big bytes frames → All (λ frame. length frame ≤ 262144) frames
records-short big bytes [] none = All-nil (λ f. length f ≤ 262144)
records-short big bytes (frame ∷ frames) (head, rest, good, split, behind) =
    All-cons (λ f. length f ≤ 262144) frame frames good.within (records-short big rest frames behind)

pub capture-short : (bytes : List ℕ) (frames : List (List ℕ)) → IsCapture bytes frames → All (λ frame. length frame ≤ 262144) frames
capture-short bytes frames (kind, header, rest, good, split, records) = records-short kind.big rest frames records
