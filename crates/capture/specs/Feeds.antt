-- A capture that comes in pieces: what is kept of it, and which bytes that stands for. This project's own.
use Rattle.std.specs.Prelude.{◌≡◌, ◌≢◌, ℕ, ◌+◌, ◌<◌, ◌≤◌, Bool, true, false, List, [], ◌∷◌, ◌++◌, length, take, drop, Option, Some, None, Result, Ok, Err}
use Rattle.capture.specs.declared.error.CaptureErr.{CaptureErr}
use Rattle.capture.specs.declared.error.CaptureErr.TheVariants.{Truncated}
use Rattle.capture.specs.declared.header.CaptureHeader.{CaptureHeader}
use Rattle.capture.specs.Sizes.{file_header_size, longest_record}
use Rattle.capture.specs.FileHeaders.{file_header}
use Rattle.capture.specs.Records.{frame_of, AreRecords}
use Rattle.capture.specs.Captures.{capture_of, IsCaptureBad}

-- what a feed keeps: the header, the frames of the whole records, the number of bytes before the rest, the rest, and
-- the first fault that no later byte can heal
pub record FeedState : Type 0 where
  pub header : Option CaptureHeader
  pub frames : List (List ℕ)
  pub before : ℕ
  pub rest : List ℕ
  pub fault : Option CaptureErr

-- the bytes are a front, which is a capture of the frames with the header, and the rest, which is a record that is cut
-- short, and nothing else; no byte is a record cut short
pub record IsCutAt (feed : FeedState) (kind : CaptureHeader) (bytes front : List ℕ) : Type 0 where
  pub whole : bytes ≡ front ++ feed.rest
  pub size : length front ≡ feed.before
  pub is_header : file_header front ≡ Ok kind
  pub is_capture : capture_of front ≡ Ok feed.frames
  pub is_cut : frame_of kind.big feed.before feed.rest ≡ Err (Truncated feed.before)

-- without a fault: before the header is whole the rest is all
abbrev pub StandsSound : Option CaptureHeader → FeedState → List ℕ → Type 0
StandsSound None feed bytes = (bytes ≡ feed.rest) × (feed.before ≡ 0) × (length feed.rest < file_header_size)
StandsSound (Some kind) feed bytes = (front : List ℕ) × IsCutAt feed kind bytes front

-- with a fault that no later byte can heal, or without one
abbrev pub StandsBy : Option CaptureErr → FeedState → List ℕ → Type 0
StandsBy None feed bytes = StandsSound feed.header feed bytes
StandsBy (Some fault) feed bytes = (later : List ℕ) → IsCaptureBad (bytes ++ later) fault

-- which bytes a feed stands for
abbrev pub StandsFor : FeedState → List ℕ → Type 0
StandsFor feed bytes = StandsBy feed.fault feed bytes

-- What every feed keeps to: the rest is shorter than the longest record, a feed with a fault has none, and frames come
-- behind a header.
pub record IsFeed (feed : FeedState) : Type 0 where
  pub short : length feed.rest < longest_record
  pub dropped : feed.fault ≢ None → feed.rest ≡ []
  pub unread : feed.header ≡ None → feed.frames ≡ []
  pub at_start : feed.header ≡ None → feed.before ≡ 0
  pub begun : feed.header ≡ None → length feed.rest < file_header_size

-- What a feed stood for, it stands for with the piece behind it.
abbrev pub IsFedOn : FeedState → FeedState → List ℕ → Type 0
IsFedOn old new piece = (bytes : List ℕ) → StandsFor old bytes → StandsFor new (bytes ++ piece)

-- Pieces were fed, one after another.
abbrev pub AreFed : FeedState → FeedState → List (List ℕ) → Type 0
AreFed old new [] = old ≡ new
AreFed old new (piece ∷ pieces) = (next : FeedState) × IsFedOn old next piece × AreFed next new pieces

-- What is said of a feed at its end is what the bytes read as that it stands for.
abbrev pub IsEnded : FeedState → Result (List (List ℕ)) CaptureErr → Type 0
IsEnded feed said = (bytes : List ℕ) → StandsFor feed bytes → said ≡ capture_of bytes

-- from the bytes the records of further frames were cut, so many bytes, and there is this fault where the next one is
-- looked for
pub record WereCut (big : Bool) (before : ℕ) (bytes : List ℕ) (old new : List (List ℕ)) (at : ℕ) (stop : CaptureErr)
    : Type 0 where
  pub within : at ≤ length bytes
  pub further : (frames : List (List ℕ)) × (new ≡ old ++ frames) × AreRecords big (take at bytes) frames
  pub stops : frame_of big (before + at) (drop at bytes) ≡ Err stop

-- no later byte can heal the fault
abbrev pub is_lasting : CaptureErr → Bool
is_lasting (Truncated offset) = false
is_lasting fault = true
