-- What a sink of captures wrote, and the frames that it tells of it.
use Rattle.std.proofs.Common.{◌≡◌, ℕ, ◌≤◌, Bool, true, false, List, [], ◌∷◌, ◌++◌, length, All, Option, None, Some, IfSome, IsSomeAnd, option_map, Result, Ok, Err, refl, ap, sym, ◌∙◌, subst, append_assoc, append-nil, inl, inr, ◌⊎◌, OnOk, arith}
use Rattle.std.specs.Option.{option_and_then}
use Rattle.std.specs.Result.{result_ok, is_err}
use Rattle.std.specs.List.{flat_map}
use Rattle.std.proofs.lemmas.List.Elements.{All-nil, All-cons, All-append}
use Rattle.std.proofs.lemmas.Grind.{flat_map-append}
use Rattle.capture.specs.Captures.{IsCapture, capture_of, header_text, record_text, capture_text}
use Rattle.capture.proofs.CaptureLaws.{is-capture_of, capture-written}
use Rattle.std.proofs.lemmas.Bool.{false≢true}
use Rattle.vnff_base.specs.Counts.{count_with}
use Rattle.vnff_base.specs.Outputs.{OutputState, told_after, Stopped, Writes}
use Rattle.capture.specs.Sizes.{longest_frame}
use Rattle.rx_sinks.specs.Sinks.{SinkState, Faulted, Delivers, Finishes}
use Rattle.rx_sinks.specs.CaptureSinks.{CaptureSinkState, capture_state, frames_of, first_text, IsWritten, HasWhatItWrites, TellsCapture, TellsWritten}

-- the longest frame
abbrev IsShort : List ℕ → Type 0
IsShort frame = length frame ≤ longest_frame

-- a capture with one more frame
more_text : (frames : List (List ℕ)) (frame : List ℕ) → capture_text frames ++ record_text frame ≡ capture_text (frames ++ frame ∷ [])
unfolding capture_text
more_text frames frame =
    append_assoc header_text (flat_map record_text frames) (record_text frame)
    ∙ ap (λ t. header_text ++ (flat_map record_text frames ++ t)) (sym (append-nil (record_text frame)))
    ∙ ap (λ t. header_text ++ t) (sym (flat_map-append record_text frames (frame ∷ [])))

-- a capture of no frame
no_text : header_text ≡ capture_text []
unfolding capture_text
no_text = sym (append-nil header_text)

-- what is written begins with a header
capture_text-cons : (frames : List (List ℕ)) → frames_of (capture_text frames) ≡ result_ok (capture_of (capture_text frames))
unfolding capture_text header_text
capture_text-cons frames = refl

-- the frames of what was written of them
pub frames_of-text : (frames : List (List ℕ)) → All IsShort frames → frames_of (capture_text frames) ≡ Some frames
frames_of-text frames short = capture_text-cons frames ∙ ap result_ok (is-capture_of (capture_text frames) frames (capture-written frames short))

-- What is written before the first frame, and the frames of that.
begun_text : (begun : Bool) (bytes : List ℕ) → IsWritten begun bytes → (frames : List (List ℕ)) × (bytes ++ first_text begun ≡ capture_text frames) × All IsShort frames × (frames_of bytes ≡ Some frames)
begun_text false bytes none = ([], ap (λ b. b ++ header_text) none ∙ no_text, All-nil IsShort, ap frames_of none)
begun_text true bytes (frames, is, short) = (frames, append-nil bytes ∙ is, short, ap frames_of is ∙ frames_of-text frames short)

-- short frames, and one more
one_more : (frames : List (List ℕ)) (frame : List ℕ) → All IsShort frames → IsShort frame → All IsShort (frames ++ frame ∷ [])
one_more frames frame short within = All-append IsShort frames (frame ∷ []) short (All-cons IsShort frame [] within (All-nil IsShort))

-- the frames after one more, where the output tells its bytes
frames_of-more : (begun : Bool) (told : Option (List ℕ)) (frame : List ℕ) → IfSome told (IsWritten begun) → length frame ≤ longest_frame → option_and_then frames_of (told_after told (first_text begun ++ record_text frame)) ≡ option_map (λ frames. frames ++ frame ∷ []) (option_and_then frames_of told)
frames_of-more begun None frame written within = refl
frames_of-more begun (Some bytes) frame written within =
    let (frames, is, short, read) = begun_text begun bytes written in
    ap frames_of (sym (append_assoc bytes (first_text begun) (record_text frame)))
    ∙ ap (λ t. frames_of (t ++ record_text frame)) is
    ∙ ap frames_of (more_text frames frame)
    ∙ frames_of-text (frames ++ frame ∷ []) (one_more frames frame short within)
    ∙ sym (ap (option_map (λ fs. fs ++ frame ∷ [])) read)

-- what is written with one more frame
written-more : (begun : Bool) (told : Option (List ℕ)) (frame : List ℕ) → IfSome told (IsWritten begun) → length frame ≤ longest_frame → IfSome (told_after told (first_text begun ++ record_text frame)) (IsWritten true)
written-more begun None frame written within = tt
written-more begun (Some bytes) frame written within =
    let (frames, is, short, read) = begun_text begun bytes written in
    (frames ++ frame ∷ [], sym (append_assoc bytes (first_text begun) (record_text frame)) ∙ ap (λ t. t ++ record_text frame) is ∙ more_text frames frame, one_more frames frame short within)

-- the frames after the header
frames_of-begun : (begun : Bool) (told : Option (List ℕ)) → IfSome told (IsWritten begun) → option_and_then frames_of (told_after told (first_text begun)) ≡ option_and_then frames_of told
frames_of-begun begun None written = refl
frames_of-begun begun (Some bytes) written =
    let (frames, is, short, read) = begun_text begun bytes written in
    ap frames_of is ∙ frames_of-text frames short ∙ sym read

-- what is written with the header
written-begun : (begun : Bool) (told : Option (List ℕ)) → IfSome told (IsWritten begun) → IfSome (told_after told (first_text begun)) (IsWritten true)
written-begun begun None written = tt
written-begun begun (Some bytes) written =
    let (frames, is, short, read) = begun_text begun bytes written in (frames, is, short)

-- What is written is a capture of the frames that are told.
tells_capture : (told : Option (List ℕ)) → IfSome told (IsWritten true) → IfSome told (λ bytes. IsSomeAnd (option_and_then frames_of told) (IsCapture bytes))
tells_capture None written = tt
tells_capture (Some bytes) (frames, is, short) =
    subst (λ read. IsSomeAnd read (IsCapture bytes)) (sym (ap frames_of is ∙ frames_of-text frames short)) (subst (λ b. IsCapture b frames) (sym is) (capture-written frames short))

-- The frames that are told are those of what was written, until a put failed.
told_frames : (sink : CaptureSinkState) → sink.broken ≡ false → (capture_state sink).frames ≡ option_and_then frames_of sink.output.told
told_frames sink whole = ap (λ broken. (capture_state (record sink { broken = broken })).frames) whole

-- what was written is nothing, or a capture of the frames that are told
written_cases : (begun : Bool) (told : Option (List ℕ)) → IfSome told (IsWritten begun) → IfSome told (λ bytes. (bytes ≡ []) × (option_and_then frames_of told ≡ Some [])) ⊎ IfSome told (λ bytes. IsSomeAnd (option_and_then frames_of told) (IsCapture bytes))
written_cases begun None written = inl tt
written_cases false (Some bytes) none = inl (none, ap frames_of none)
written_cases true (Some bytes) written = inr (tells_capture (Some bytes) written)

-- At any moment a sink of which no put failed tells the frames that it wrote.
pub tells_written : (sink : CaptureSinkState) → HasWhatItWrites sink → sink.broken ≡ false → TellsWritten sink
tells_written sink sound whole = rw whole (written_cases sink.begun sink.output.told (sound whole))

-- a sink after a text was put, or stopped
abbrev after_put : CaptureSinkState → OutputState → Bool → CaptureSinkState
after_put sink output broken = record { output = output; begun = true; broken = broken; refused = sink.refused }

-- what a sink shows with these frames and this count of the output
abbrev shown : Option (List (List ℕ)) → ℕ → ℕ → SinkState
shown frames refused faults = record { frames = frames; faults = count_with faults refused; ends = None; gives = false }

-- A put that failed is a failure of the sink.
put_failed : (old : CaptureSinkState) (output : OutputState) (text : List ℕ) → Stopped old.output output text → Faulted (capture_state old) (capture_state (after_put old output true))
put_failed old output text stopped = record {
  follows = record { frames = tt; faults = omega (arith, stopped.grew); ends = refl; gives = refl };
  rose = omega (arith, stopped.rose, stopped.grew);
}

-- What a sink shows after a frame's record was put, or stopped.
pub capture_delivers : {A E : Type 0} (old : CaptureSinkState) (output : OutputState) (broken : Bool) (frame : List ℕ) (result : Result A E) → HasWhatItWrites old → old.broken ≡ false → length frame ≤ longest_frame → broken ≡ is_err result → Writes old.output output (first_text old.begun ++ record_text frame) result → Delivers (capture_state old) (capture_state (after_put old output broken)) frame result
capture_delivers old output broken frame (Ok x) sound whole within is wrote =
    let told = told_frames (after_put old output broken) is ∙ ap (option_and_then frames_of) wrote.told ∙ frames_of-more old.begun old.output.told frame (sound whole) within ∙ sym (ap (option_map (λ fs. fs ++ frame ∷ [])) (told_frames old whole)) in
    ap (λ frames. shown frames old.refused output.faults) told ∙ ap (shown (option_map (λ fs. fs ++ frame ∷ []) (capture_state old).frames) old.refused) wrote.faults
capture_delivers old output broken frame (Err e) sound whole within is stopped =
    subst (λ b. Faulted (capture_state old) (capture_state (after_put old output b))) (sym is) (put_failed old output (first_text old.begun ++ record_text frame) stopped)

-- What a sink shows after the header was put, or stopped.
pub capture_finishes : {A E : Type 0} (old : CaptureSinkState) (output : OutputState) (broken : Bool) (result : Result A E) → HasWhatItWrites old → old.broken ≡ false → broken ≡ is_err result → Writes old.output output (first_text old.begun) result → Finishes (capture_state old) (capture_state (after_put old output broken)) result
capture_finishes old output broken (Ok x) sound whole is wrote =
    let told = told_frames (after_put old output broken) is ∙ ap (option_and_then frames_of) wrote.told ∙ frames_of-begun old.begun old.output.told (sound whole) ∙ sym (told_frames old whole) in
    ap (λ frames. shown frames old.refused output.faults) told ∙ ap (shown (capture_state old).frames old.refused) wrote.faults
capture_finishes old output broken (Err e) sound whole is stopped =
    subst (λ b. Faulted (capture_state old) (capture_state (after_put old output b))) (sym is) (put_failed old output (first_text old.begun) stopped)

-- What was put of a frame keeps the sink sound.
pub sound_delivered : {A E : Type 0} (old : CaptureSinkState) (output : OutputState) (broken : Bool) (frame : List ℕ) (result : Result A E) → HasWhatItWrites old → old.broken ≡ false → length frame ≤ longest_frame → broken ≡ is_err result → Writes old.output output (first_text old.begun ++ record_text frame) result → HasWhatItWrites (after_put old output broken)
sound_delivered old output broken frame (Ok x) sound whole within is wrote =
    λ _. subst (λ told. IfSome told (IsWritten true)) (sym wrote.told) (written-more old.begun old.output.told frame (sound whole) within)
sound_delivered old output broken frame (Err e) sound whole within is stopped = λ unbroken. absurd (false≢true (sym unbroken ∙ is))

-- What was put of the header keeps the sink sound.
pub sound_finished : {A E : Type 0} (old : CaptureSinkState) (output : OutputState) (broken : Bool) (result : Result A E) → HasWhatItWrites old → old.broken ≡ false → broken ≡ is_err result → Writes old.output output (first_text old.begun) result → HasWhatItWrites (after_put old output broken)
sound_finished old output broken (Ok x) sound whole is wrote =
    λ _. subst (λ told. IfSome told (IsWritten true)) (sym wrote.told) (written-begun old.begun old.output.told (sound whole))
sound_finished old output broken (Err e) sound whole is stopped = λ unbroken. absurd (false≢true (sym unbroken ∙ is))

-- A sink that was put to and isn't broken tells a capture of its frames.
pub sound_tells : {A E : Type 0} (old : CaptureSinkState) (output : OutputState) (broken : Bool) (result : Result A E) → broken ≡ is_err result → HasWhatItWrites (after_put old output broken) → OnOk result (TellsCapture (after_put old output broken))
sound_tells old output broken (Ok x) is sound =
    subst (λ frames. IfSome output.told (λ bytes. IsSomeAnd frames (IsCapture bytes))) (sym (told_frames (after_put old output broken) is)) (tells_capture output.told (sound is))
sound_tells old output broken (Err e) is sound = tt
