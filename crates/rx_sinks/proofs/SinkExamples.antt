-- Worked examples of the definitions.
use Rattle.std.proofs.Common.{◌≡◌, ◌≤◌, ℕ, All, List, length, true, false, [], ◌∷◌, None, Some, refl, arith}
use Rattle.std.proofs.lemmas.List.Elements.{All-nil, All-cons}
use Rattle.capture.specs.Captures.{header_text, capture_text}
use Rattle.capture.specs.Sizes.{longest_frame}
use Rattle.rx_sinks.specs.Sinks.{SinkState, appended, finished, frame_at}
use Rattle.rx_sinks.specs.Racks.{no_sink, sink_at}
use Rattle.rx_sinks.specs.MemSinks.{byte_count}
use Rattle.rx_sinks.specs.CaptureSinks.{CaptureSinkState, capture_state, frames_of}
use Rattle.rx_sinks.proofs.CaptureSinkLemmas.{frames_of-text}

-- a sink that holds and gives one frame, and was finished once
one_frame : SinkState
one_frame = record { frames = Some ((1 ∷ 2 ∷ []) ∷ []); faults = 0; ends = Some 1; gives = true }

-- a second frame; one of a sink that tells none
second : (appended one_frame ((3 ∷ []) ∷ [])).frames ≡ Some ((1 ∷ 2 ∷ []) ∷ (3 ∷ []) ∷ [])
unfolding one_frame
second = refl

untold : (appended (record one_frame { frames = None }) ((3 ∷ []) ∷ [])).frames ≡ None
unfolding one_frame
untold = refl

-- a second finish, and one at the count's end
twice : (finished one_frame).ends ≡ Some 2
unfolding one_frame
twice = refl

last : (finished (record one_frame { ends = Some 18446744073709551615 })).ends ≡ Some 18446744073709551615
unfolding one_frame
last = refl

-- the frame that is given, the place behind it, and a sink that gives none
given : frame_at one_frame 0 ≡ Some (1 ∷ 2 ∷ [])
unfolding one_frame
given = refl

behind : frame_at one_frame 1 ≡ None
unfolding one_frame
behind = refl

kept_back : frame_at (record one_frame { gives = false }) 0 ≡ None
unfolding one_frame
kept_back = refl

-- the sinks of a rack, and what stands past its end
first_sink : sink_at (one_frame ∷ []) 0 ≡ one_frame
first_sink = refl

past_end : sink_at (one_frame ∷ []) 1 ≡ no_sink
past_end = refl

-- the bytes of two frames
bytes_of_two : byte_count ((1 ∷ 2 ∷ []) ∷ (3 ∷ []) ∷ []) ≡ 3
bytes_of_two = refl

-- the frames of nothing, and of a capture of two frames
of_nothing : frames_of [] ≡ Some []
of_nothing = refl

two_frames : List (List ℕ)
two_frames = (7 ∷ 8 ∷ []) ∷ [] ∷ []

both_short : All (λ frame. length frame ≤ longest_frame) two_frames
unfolding two_frames
both_short = let P : List ℕ → Type 0 = λ frame. length frame ≤ longest_frame in All-cons P (7 ∷ 8 ∷ []) ([] ∷ []) (omega arith) (All-cons P [] [] (omega arith) (All-nil P))

of_two : frames_of (capture_text two_frames) ≡ Some two_frames
of_two = frames_of-text two_frames both_short

-- a sink of captures whose output failed once, and that refused two calls since
broken_sink : CaptureSinkState
broken_sink = record { output = record { told = Some header_text; faults = 1 }; begun = true; broken = true; refused = 2 }

broken : capture_state broken_sink ≡ record { frames = None; faults = 3; ends = None; gives = false }
unfolding broken_sink
broken = refl
