-- A sink that writes a capture to an output, as contracts see it.
use Rattle.std.specs.Prelude.{◌≡◌, ℕ, ◌≤◌, Bool, true, false, if◌then◌else◌, List, [], ◌∷◌, length, All, Option, Some, None, option_and_then, IfSome, IsSomeAnd, Result, is_err, IsErr, ◌⊎◌}
use Rattle.std.specs.Result.{result_ok}
use Rattle.vnff_base.specs.Counts.{count_with}
use Rattle.vnff_base.specs.Outputs.{OutputState, Writes}
use Rattle.capture.specs.Captures.{IsCapture, capture_of, header_text, capture_text}
use Rattle.capture.specs.Sizes.{longest_frame}
use Rattle.rx_sinks.specs.Sinks.{SinkState}

-- the output; whether the header was put, whether a put failed, and how many calls were refused after that
pub record CaptureSinkState : Type 0 where
  pub output : OutputState
  pub begun : Bool
  pub broken : Bool
  pub refused : ℕ

-- the frames of what was written: none where nothing was, and otherwise those of the capture
abbrev pub frames_of : List ℕ → Option (List (List ℕ))
frames_of [] = Some []
frames_of (byte ∷ bytes) = result_ok (capture_of (byte ∷ bytes))

-- as every sink is seen: it tells its frames where its output tells its bytes, until a put fails; its count is the
-- output's and that of the refused calls; it gives no frames, and doesn't tell how often it was finished
abbrev pub capture_state : CaptureSinkState → SinkState
capture_state sink = record {
  frames = if sink.broken then None else option_and_then frames_of sink.output.told;
  faults = count_with sink.output.faults sink.refused;
  ends = None;
  gives = false;
}

-- what is put before anything else: the header, where it wasn't put yet
abbrev pub first_text : Bool → List ℕ
first_text begun = if begun then [] else header_text

-- What was written: nothing before the header, and from then on the capture of some frames, none of them too long.
abbrev pub IsWritten : Bool → List ℕ → Type 0
IsWritten false bytes = bytes ≡ []
IsWritten true bytes =
    (frames : List (List ℕ)) × (bytes ≡ capture_text frames) × All (λ frame. length frame ≤ longest_frame) frames

-- Where no put failed and the output tells its bytes, they are what such a sink writes.
abbrev pub HasWhatItWrites : CaptureSinkState → Type 0
HasWhatItWrites sink = sink.broken ≡ false → IfSome sink.output.told (IsWritten sink.begun)

-- Where the output tells its bytes, they are a capture of the frames that the sink tells.
abbrev pub TellsCapture : CaptureSinkState → Type 0
TellsCapture sink = IfSome sink.output.told (λ bytes. IsSomeAnd (capture_state sink).frames (IsCapture bytes))

-- A sink with no byte and no frame, or one that tells the frames of its capture.
abbrev pub TellsWritten : CaptureSinkState → Type 0
TellsWritten sink =
    IfSome sink.output.told (λ bytes. (bytes ≡ []) × ((capture_state sink).frames ≡ Some [])) ⊎ TellsCapture sink

-- What a call did that was to put a text. A sink of which a put failed puts nothing more, and counts the call as
-- failed; of any other a front of the text is put where the output fails, which breaks the sink, and otherwise the
-- text.
pub record PutsText {A E : Type 0} (old new : CaptureSinkState) (text : List ℕ) (result : Result A E) : Type 0 where
  pub refuses : old.broken ≡ true → IsErr result × (new ≡ record old { refused = count_with old.refused 1 })
  pub writes : old.broken ≡ false → Writes old.output new.output text result
  pub breaks : old.broken ≡ false → new ≡ record old { output = new.output; begun = true; broken = is_err result }
