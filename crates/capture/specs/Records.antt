-- The records of a capture file: one for each frame, after the published pcap 2.4 format.
use Rattle.std.specs.Prelude.{◌≡◌, ℕ, zero, suc, ◌+◌, ◌≤◌, ◌==◌, Bool, if◌then◌else◌, nat_lt, List, [], ◌∷◌, ◌++◌, length, take, drop, Option, Some, None, Result, Ok, Err}
use Rattle.capture.specs.declared.error.CaptureErr.{CaptureErr}
use Rattle.capture.specs.declared.error.CaptureErr.TheVariants.{Truncated, TooLong}
use Rattle.capture.specs.Sizes.{record_size, longest_frame}
use Rattle.capture.specs.FileHeaders.{number32_at}

infixl 10 ◌>>=◌
abbrev pub ◌>>=◌ : {A B : Type 0} → Result A CaptureErr → (A → Result B CaptureErr) → Result B CaptureErr
(Ok x) >>= f = f x
(Err e) >>= f = Err e

-- a result, with a function of its value in the place of the value
abbrev pub map_ok : {A B E : Type 0} → (A → B) → Result A E → Result B E
map_ok view (Ok x) = Ok (view x)
map_ok view (Err e) = Err e

-- the number of bytes of a record's frame that the file holds, the third of the record's four numbers; the others, its
-- time and the frame's length on the wire, are ignored
unfoldable pub captured_length : Bool → List ℕ → ℕ
captured_length big bytes = number32_at big bytes 8

-- the frame of the record that the bytes begin with, which stands at an offset, or the record's first fault
unfoldable pub frame_of : Bool → ℕ → List ℕ → Result (List ℕ) CaptureErr
frame_of big at bytes =
    if nat_lt (length bytes) record_size then Err (Truncated at)
    else if nat_lt longest_frame (captured_length big bytes) then Err (TooLong at)
    else if nat_lt (length bytes) (record_size + captured_length big bytes) then Err (Truncated at)
    else Ok (take (captured_length big bytes) (drop record_size bytes))

-- the frame of the record at an offset of the file, and None at the file's end
unfoldable pub next_of : Bool → List ℕ → ℕ → Result (Option (List ℕ)) CaptureErr
next_of big file at =
    if at == length file then Ok None
    else (frame_of big at (drop at file) >>= λ frame. Ok (Some frame))

-- the frames of the records that the bytes are, or the first fault, where at most so many records are looked at
abbrev pub records_within : ℕ → Bool → ℕ → List ℕ → Result (List (List ℕ)) CaptureErr
records_within n big at [] = Ok []
records_within zero big at (b ∷ bs) = Ok []
records_within (suc n) big at (b ∷ bs) =
    frame_of big at (b ∷ bs) >>= λ frame.
    (records_within n big (at + (record_size + length frame)) (drop (record_size + length frame) (b ∷ bs)) >>= λ frames.
    Ok (frame ∷ frames))

-- the frames of the records that the bytes are, of which the first stands at an offset, or the first fault; a record
-- has at least one byte, so there are no more records than bytes
unfoldable pub records_of : Bool → ℕ → List ℕ → Result (List (List ℕ)) CaptureErr
records_of big at bytes = records_within (length bytes) big at bytes

-- what reading records gives, behind the frames of those before them
abbrev pub with_front : List (List ℕ) → Result (List (List ℕ)) CaptureErr → Result (List (List ℕ)) CaptureErr
with_front front read = map_ok (λ frames. front ++ frames) read

-- The first 16 bytes of a frame's record.
pub record IsRecordHead (big : Bool) (head frame : List ℕ) : Type 0 where
  pub size : length head ≡ record_size
  pub captured : captured_length big head ≡ length frame
  pub within : length frame ≤ longest_frame

-- The bytes are a record for each frame, in order.
abbrev pub AreRecords : Bool → List ℕ → List (List ℕ) → Type 0
AreRecords big bytes [] = bytes ≡ []
AreRecords big bytes (frame ∷ frames) =
    (head rest : List ℕ) × IsRecordHead big head frame × (bytes ≡ head ++ (frame ++ rest)) × AreRecords big rest frames
