-- What the calls answered that hand frames on to the sinks of their queues. The code's own.
use Rattle.std.specs.Prelude.{◌≡◌, ℕ, List, length, take, Option, Some, None, Result, Ok, Err, MatchResult}
use Rattle.cap_table.specs.States.{DeviceState}
use Rattle.rx_sinks.specs.Racks.{FirstSinks, OneRose, OneSink}
use Rattle.rx_sinks.specs.Sinks.{SinkState, Faulted, Follows, appended, delivered}
use Rattle.vnff_base.specs.Outputs.{OutputState}
use Rattle.vnff_run.specs.Endings.{IsUntouched, RunsAs}
use Rattle.vnff_run.specs.Outcomes.{Outcome}
use Rattle.vnff_run.specs.Steering.{AllSteered, FrontSteered, Steering, sink_list}
use Rattle.vnff_run.specs.declared.stop.Stop.{Stop}
use Rattle.vnff_run.specs.declared.stop.Stop.TheVariants as stops

-- the steering of frames by a device as it stands
abbrev pub steering_on : DeviceState → List (List ℕ) → Steering
steering_on device frames = record { pairs = device.caps.pairs; objects = device.objects; frames = frames }

-- A frame was handed to the sink of its queue, where it has one.
abbrev pub OneDelivered : Option ℕ → List ℕ → List SinkState → List SinkState → Type 0
OneDelivered None frame old new = new ≡ old
OneDelivered (Some queue) frame old new = OneSink queue (λ a b. b ≡ delivered a frame) old new

-- The sink of its queue failed.
abbrev pub OneFaulted : Option ℕ → List SinkState → List SinkState → Type 0
OneFaulted None old new = ⊥
OneFaulted (Some queue) old new = OneSink queue Faulted old new

-- The sinks got the frames, each those that go to it.
abbrev pub AllDelivered : Steering → List SinkState → List SinkState → Type 0
AllDelivered run old new =
    FirstSinks run.pairs (λ q a b. b ≡ appended a (sink_list run.objects run.frames q)) old new

-- They got those of the first n, where they tell their frames.
abbrev pub FrontDelivered : Steering → List SinkState → List SinkState → Type 0
FrontDelivered run old new =
    (n : ℕ)
    × FirstSinks run.pairs (λ q a b. Follows (appended a (sink_list run.objects (take n run.frames) q)) b) old new

-- All frames were handed on, or a sink failed.
abbrev pub DeliversAll : {A E : Type 0} → Steering → List SinkState → List SinkState → Result A E → Type 0
DeliversAll run old new result = MatchResult result
    (λ _. AllDelivered run old new)
    (λ _. FrontDelivered run old new × OneRose run.pairs old new)

-- All frames were handed on and the sinks finished, or one of them failed.
abbrev pub FinishesAll : {A E : Type 0} → Steering → List SinkState → List SinkState → Result A E → Type 0
FinishesAll run old new result = MatchResult result
    (λ _. AllSteered run old new)
    (λ _. FrontSteered run old new × OneRose run.pairs old new)

-- Why a steering of what was read stopped, and what it had done with the sinks.
abbrev pub SteeringStops : Steering → List SinkState → List SinkState → Stop → Type 0
SteeringStops run old new stops.SinkFault =
    FrontSteered run old new × OneRose run.pairs old new × OneRose (length old) old new
SteeringStops run old new stops.WriteFault = FrontSteered run old new
SteeringStops run old new _ = new ≡ old

-- What a steering of what was read did with the sinks that was carried out, or stopped.
abbrev pub SteersSinks : {A : Type 0} → Steering → List SinkState → List SinkState → Result A Stop → Type 0
SteersSinks run old new (Ok _) = AllSteered run old new
SteersSinks run old new (Err stop) = SteeringStops run old new stop

-- It does what has the outcome, or stops within it; where a sink failed, nothing was written.
abbrev pub SteerRuns : {A : Type 0} → OutputState → OutputState → Outcome → Result A Stop → Type 0
SteerRuns old new outcome (Err stops.SinkFault) = IsUntouched old new
SteerRuns old new outcome result = RunsAs old new outcome result
