-- Captures of Ethernet frames, after the published pcap 2.4 format, and which of them this product writes.
use Rattle.std.specs.Prelude.{◌≡◌, ℕ, ◌<◌, ◌≤◌, List, [], ◌∷◌, ◌++◌, length, take, drop, Result, Ok, Err}
use Rattle.std.specs.Int.{w32, to_le_bytes}
use Rattle.std.specs.List.{flat_map}
use Rattle.capture.specs.declared.error.CaptureErr.{CaptureErr}
use Rattle.capture.specs.declared.error.FramesErr.{FramesErr}
use Rattle.capture.specs.declared.error.FramesErr.TheVariants.{Bad, Memory}
use Rattle.capture.specs.declared.header.CaptureHeader.{CaptureHeader}
use Rattle.capture.specs.Sizes.{file_header_size}
use Rattle.capture.specs.FileHeaders.{IsHeader, file_header}
use Rattle.capture.specs.Records.{◌>>=◌, frame_of, records_of, AreRecords}

-- the frames of a capture, or its first fault
unfoldable pub capture_of : List ℕ → Result (List (List ℕ)) CaptureErr
capture_of bytes = file_header bytes >>= λ header. records_of header.big file_header_size (drop file_header_size bytes)

-- The bytes are a capture of the frames: a good header, and then a record for each frame, in order.
abbrev pub IsCapture : List ℕ → List (List ℕ) → Type 0
IsCapture bytes frames =
    (kind : CaptureHeader) × (header rest : List ℕ)
    × IsHeader kind header × (bytes ≡ header ++ rest) × AreRecords kind.big rest frames

-- The bytes are no capture, and this is their first fault.
abbrev pub IsCaptureBad : List ℕ → CaptureErr → Type 0
IsCaptureBad bytes fault = capture_of bytes ≡ Err fault

-- The record at an offset is at fault, and the bytes before it are a capture.
abbrev pub IsRecordFault : List ℕ → CaptureErr → Type 0
IsRecordFault bytes fault =
    (kind : CaptureHeader) × (frames : List (List ℕ)) × (at : ℕ)
    × (file_header bytes ≡ Ok kind) × (file_header_size ≤ at) × (at < length bytes) × IsCapture (take at bytes) frames
    × (frame_of kind.big at (drop at bytes) ≡ Err fault)

-- A refusal: the first fault, or that memory ran out.
abbrev pub Refuses : FramesErr → Result (List (List ℕ)) CaptureErr → Type 0
Refuses (Bad fault) read = read ≡ Err fault
Refuses Memory read = Unit {0}

-- What reading a capture answers: its frames, or a refusal.
abbrev pub GivesFrames : Result (List (List ℕ)) FramesErr → Result (List (List ℕ)) CaptureErr → Type 0
GivesFrames (Ok frames) read = read ≡ Ok frames
GivesFrames (Err err) read = Refuses err read

-- the header that is written: little-endian microseconds, version 2.4, zone and accuracy 0, at most 262,144 bytes of a
-- frame, Ethernet
unfoldable pub header_text : List ℕ
header_text =
    0xd4 ∷ 0xc3 ∷ 0xb2 ∷ 0xa1 ∷ 2 ∷ 0 ∷ 4 ∷ 0 ∷ 0 ∷ 0 ∷ 0 ∷ 0 ∷ 0 ∷ 0 ∷ 0 ∷ 0 ∷ 0 ∷ 0 ∷ 4 ∷ 0 ∷ 1 ∷ 0 ∷ 0 ∷ 0 ∷ []

-- the record that is written of a frame: time 0 in two numbers, the frame's length twice, and the frame
unfoldable pub record_head : ℕ → List ℕ
record_head size = to_le_bytes w32 0 ++ (to_le_bytes w32 0 ++ (to_le_bytes w32 size ++ to_le_bytes w32 size))

unfoldable pub record_text : List ℕ → List ℕ
record_text frame = record_head (length frame) ++ frame

-- the capture that is written of frames
unfoldable pub capture_text : List (List ℕ) → List ℕ
capture_text frames = header_text ++ flat_map record_text frames
