-- What contracts see of a sink of received frames, and what each of its calls does to it. This project's own.
use Rattle.std.specs.Prelude.{◌≡◌, ℕ, ◌≤◌, Bool, if◌then◌else◌, List, [], ◌∷◌, ◌++◌, slice_get, Option, Some, None, option_map, option_and_then, IfSome, ◌⊎◌, Result, MatchResult}
use Rattle.vnff_base.specs.Counts.{count_with, Rose}

-- the frames delivered so far, where the sink tells them; how often it failed; how often it was finished, where it
-- tells that; and whether it gives its frames to who asks for one
pub record SinkState : Type 0 where
  pub frames : Option (List (List ℕ))
  pub faults : ℕ
  pub ends : Option ℕ
  pub gives : Bool

-- a sink with more frames behind its frames; one that tells none still tells none
abbrev pub appended : SinkState → List (List ℕ) → SinkState
appended sink more = record sink { frames = option_map (λ frames. frames ++ more) sink.frames }

-- a sink with one more frame
abbrev pub delivered : SinkState → List ℕ → SinkState
delivered sink frame = appended sink (frame ∷ [])

-- a sink that was finished once more
abbrev pub finished : SinkState → SinkState
finished sink = record sink { ends = option_map (λ n. count_with n 1) sink.ends }

-- the frame at a place that a sink gives
abbrev pub frame_at : SinkState → ℕ → Option (List ℕ)
frame_at sink place = if sink.gives then option_and_then (λ frames. slice_get frames place) sink.frames else None

-- A sink now has the frames of another, or doesn't tell them, and failed at least as often; the rest is the same.
pub record Follows (sink now : SinkState) : Type 0 where
  pub frames : IfSome now.frames (λ frames. sink.frames ≡ Some frames)
  pub faults : sink.faults ≤ now.faults
  pub ends : now.ends ≡ sink.ends
  pub gives : now.gives ≡ sink.gives

-- A sink follows another, and its count of failures rose.
pub record Faulted (sink now : SinkState) : Type 0 where
  pub follows : Follows sink now
  pub rose : Rose sink.faults now.faults

-- What delivering a frame answered: the sink has the frame, or it failed and has none more.
abbrev pub Delivers : {A E : Type 0} → SinkState → SinkState → List ℕ → Result A E → Type 0
Delivers old new frame result = MatchResult result (λ _. new ≡ delivered old frame) (λ _. Faulted old new)

-- What finishing answered: the sink was finished, and whether it failed.
abbrev pub Finishes : {A E : Type 0} → SinkState → SinkState → Result A E → Type 0
Finishes old new result = MatchResult result (λ _. new ≡ finished old) (λ _. Faulted (finished old) new)

-- A sink was finished once, whatever that answered.
abbrev pub IsFinished : SinkState → SinkState → Type 0
IsFinished old new = (new ≡ finished old) ⊎ Faulted (finished old) new
