-- How forms end, of which one steers, by what they read and what they then do.
use Rattle.std.proofs.Common.{◌≡◌, ℕ, List, [], ◌∷◌, Some, None, option_map, Result, Ok, Err, refl, sym, ap, ◌∙◌, subst, inl, inr, ⊎_elim}
use Rattle.std.specs.List.{filter_map}
use Rattle.std.specs.Prelude.{IfSome, IsSomeAnd, MatchOption}
use Rattle.std.specs.Result.{result_ok}
use Rattle.std.proofs.lemmas.Option.{IfSome_then}
use Rattle.cap_table.specs.Caps.{CapsParts}
use Rattle.cap_table.specs.States.{DeviceState, start_state}
use Rattle.cap_table.specs.Steps.{effect_of, next_state, state_after, with_effect}
use Rattle.cap_table.specs.declared.answer.Effect.{Effect}
use Rattle.cap_table.specs.declared.answer.Effect.TheVariants as effects
use Rattle.cap_table.specs.declared.start.Start.{Start}
use Rattle.rx_sinks.specs.Racks.{OneRose}
use Rattle.rx_sinks.specs.Sinks.{SinkState}
use Rattle.vnff_base.specs.Outputs.{OutputState}
use Rattle.vnff_base.specs.Shelves.{Files, ShelfState}
use Rattle.vnff_run.specs.Deliveries.{SteerRuns, SteersSinks, steering_on}
use Rattle.vnff_run.specs.Endings.{FormEnds, IsUntouched, ReadStops, ReadsInput, RunsAs}
use Rattle.vnff_run.specs.Forms.{WordForm, Steer}
use Rattle.vnff_run.specs.Inputs.{InputFault, Missing, Refused, script_in}
use Rattle.vnff_run.specs.Outcomes.{done_outcome, outcome_in, outcome_with}
use Rattle.vnff_run.specs.Readings.{kept_of, with_kept}
use Rattle.vnff_run.specs.Replay.{command_in, state_after_items}
use Rattle.vnff_run.specs.Results.{◌>>=◌}
use Rattle.vnff_run.specs.SteerEndings.{FormDoes, OfSteering, SinksAre, kept_input_in}
use Rattle.vnff_run.specs.SteerInputs.{steer_input_in, steering_by, steering_in}
use Rattle.vnff_run.specs.Steering.{AllSteered, FrontSteered, Steering, steer_text, steering_for}
use Rattle.vnff_run.specs.TableInputs.{frames_in}
use Rattle.vnff_run.specs.declared.script.Item.{Item}
use Rattle.vnff_run.specs.declared.script.Item.TheVariants.{Admin, Frame}
use Rattle.vnff_run.specs.declared.script.Kept.TheVariants.{Commands}
use Rattle.vnff_run.specs.declared.script.Script.{Script}
use Rattle.vnff_run.specs.declared.stop.Stop.{Stop}
use Rattle.vnff_run.specs.declared.stop.Stop.TheVariants as stops
use Rattle.vnff_run.proofs.EndingLemmas.{form_stops, outcome_runs, where_told}
use Rattle.vnff_run.proofs.InputLemmas.{some_then}

-- ---- commands leave a device's capabilities

caps_effect : (state : DeviceState) (effect : Effect) → (with_effect state effect).caps ≡ state.caps
caps_effect state effects.Nothing = refl
caps_effect state (effects.Use opcodes) = refl
caps_effect state (effects.Caps driver) = refl
caps_effect state (effects.Change change) = refl

pub caps_behind : (state : DeviceState) (items : List Item) → (state_after_items state items).caps ≡ state.caps
unfolding state_after
caps_behind state [] = refl
caps_behind state (Admin line ∷ items) =
    caps_behind (next_state state line.bytes line.room) items ∙ caps_effect state (effect_of state line.bytes line.room)
caps_behind state (Frame frame ∷ items) = caps_behind state items

-- ---- forms that call no sink

pub form_leaves : {A : Type 0} (form : WordForm) (shelf shelf_new : ShelfState) (out out_new : OutputState) (old new : List SinkState) (result : Result A Stop) → ((files : Files) → steering_by (Some form) files ≡ None) → FormEnds shelf shelf_new out out_new (outcome_in form) result → new ≡ old → FormDoes form shelf shelf_new out out_new old new result
form_leaves form shelf shelf_new out out_new old new (Ok x) none ends same =
    (ends, (λ other. same), where_told shelf.files (λ files. rw (none files) same))
form_leaves form shelf shelf_new out out_new old new (Err stops.ReadFault) none ends same = (ends, same)
form_leaves form shelf shelf_new out out_new old new (Err (stops.Refused refusal)) none ends same =
    (ends, same, where_told shelf.files none)
form_leaves form shelf shelf_new out out_new old new (Err stops.AlreadyRefused) none ends same = (ends, same)
form_leaves form shelf shelf_new out out_new old new (Err stops.WriteFault) none ends same =
    (ends, (λ other. same), where_told shelf.files (λ files. rw (none files) same))
form_leaves form shelf shelf_new out out_new old new (Err stops.SinkFault) none ends same = absurd ends
form_leaves form shelf shelf_new out out_new old new (Err stops.Memory) none ends same = (ends, same)

-- ---- the files can't be read

pub steer_stops : (A : Type 0) (shelf shelf_new : ShelfState) (out out_new : OutputState) (script capture : List ℕ) (sinks : List SinkState) (stop : Stop) → ReadStops shelf shelf_new (steer_input_in script capture) stop → IsUntouched out out_new → FormDoes {A = A} (Steer script capture) shelf shelf_new out out_new sinks sinks (Err stop)
unfolding outcome_in
steer_stops A shelf shelf_new out out_new script capture sinks stops.ReadFault why left =
    (form_stops shelf shelf_new out out_new (steer_input_in script capture) (λ i. done_outcome (steer_text (steering_for i))) stops.ReadFault why left, refl)
steer_stops A shelf shelf_new out out_new script capture sinks (stops.Refused input) why left = (
  form_stops shelf shelf_new out out_new (steer_input_in script capture) (λ i. done_outcome (steer_text (steering_for i))) (stops.Refused input) why left,
  refl,
  IfSome_then shelf.files why.1 (λ files is. ap (λ r. option_map steering_for (result_ok r)) is),
)
steer_stops A shelf shelf_new out out_new script capture sinks stops.AlreadyRefused why left = absurd why
steer_stops A shelf shelf_new out out_new script capture sinks stops.WriteFault why left = absurd why
steer_stops A shelf shelf_new out out_new script capture sinks stops.SinkFault why left = absurd why
steer_stops A shelf shelf_new out out_new script capture sinks stops.Memory why left =
    (form_stops shelf shelf_new out out_new (steer_input_in script capture) (λ i. done_outcome (steer_text (steering_for i))) stops.Memory why left, refl)

-- ---- a script of which the commands are kept steers as the whole does

kept_pairs : (items : List Item) → filter_map command_in items ≡ filter_map command_in (kept_of Commands items)
kept_pairs [] = refl
kept_pairs (Admin line ∷ items) = ap (λ pairs. (line.bytes, line.room) ∷ pairs) (kept_pairs items)
kept_pairs (Frame frame ∷ items) = kept_pairs items

steering_kept : (script : Script) (frames : List (List ℕ)) → steering_for (script, frames) ≡ steering_for (with_kept Commands script, frames)
unfolding steering_for
steering_kept script frames =
    ap (λ commands. record { pairs = script.caps.pairs; objects = (state_after (start_state script.caps script.start) commands).objects; frames = frames }) (kept_pairs script.items)

-- a script, and the frames behind it
abbrev with_frames : Result (List (List ℕ)) InputFault → Script → Result (Script × List (List ℕ)) InputFault
with_frames frames script = frames >>= λ f. Ok (script, f)

input_kept : (script : Result Script InputFault) (frames : Result (List (List ℕ)) InputFault) (input : Script × List (List ℕ)) → ((script >>= λ s. Ok (with_kept Commands s)) >>= with_frames frames) ≡ Ok input → (whole : Script × List (List ℕ)) × ((script >>= with_frames frames) ≡ Ok whole) × (steering_for whole ≡ steering_for input)
input_kept (Ok script) (Ok frames) input is =
    let same : (with_kept Commands script, frames) ≡ input = cc in
    ((script, frames), refl, steering_kept script frames ∙ ap steering_for same)
input_kept (Ok script) (Err fault) input is = absurd (cc)
input_kept (Err fault) frames input is = absurd (cc)

input_fault : (script : Result Script InputFault) (frames : Result (List (List ℕ)) InputFault) (why : InputFault) → ((script >>= λ s. Ok (with_kept Commands s)) >>= with_frames frames) ≡ Err why → (script >>= with_frames frames) ≡ Err why
input_fault (Ok script) (Ok frames) why is = absurd (cc)
input_fault (Ok script) (Err fault) why is = is
input_fault (Err fault) frames why is = is

-- what was read steers as the files do
reads_steering : (shelf shelf_new : ShelfState) (script capture : List ℕ) (input : Script × List (List ℕ)) → ReadsInput shelf shelf_new (kept_input_in script capture) (Ok input) → IfSome shelf.files (λ files. (whole : Script × List (List ℕ)) × (steer_input_in script capture files ≡ Ok whole) × (steering_for whole ≡ steering_for input))
unfolding steer_input_in
reads_steering shelf shelf_new script capture input read =
    IfSome_then shelf.files read.1 (λ files is. input_kept (script_in script files) (frames_in capture files) input is)

-- and what stops their reading stops that of the whole
pub kept_stops : (shelf shelf_new : ShelfState) (script capture : List ℕ) (stop : Stop) → ReadStops shelf shelf_new (kept_input_in script capture) stop → ReadStops shelf shelf_new (steer_input_in script capture) stop
unfolding steer_input_in
kept_stops shelf shelf_new script capture stops.ReadFault why =
    ⊎_elim inl (λ missing. inr (some_then shelf.files missing (λ files is. input_fault (script_in script files) (frames_in capture files) Missing is))) why
kept_stops shelf shelf_new script capture (stops.Refused refusal) why =
    (why.0, IfSome_then shelf.files why.1 (λ files is. input_fault (script_in script files) (frames_in capture files) (Refused refusal) is))
kept_stops shelf shelf_new script capture stops.AlreadyRefused why = why
kept_stops shelf shelf_new script capture stops.WriteFault why = why
kept_stops shelf shelf_new script capture stops.SinkFault why = why
kept_stops shelf shelf_new script capture stops.Memory why = why

-- ---- or they are read, and steered by

of_steering : (shelf shelf_new : ShelfState) (script capture : List ℕ) (input : Script × List (List ℕ)) (P : Steering → Type 0) → ReadsInput shelf shelf_new (kept_input_in script capture) (Ok input) → P (steering_for input) → OfSteering shelf (steering_in script capture) P
of_steering shelf shelf_new script capture input P read holds =
    IfSome_then shelf.files (reads_steering shelf shelf_new script capture input read) (λ files is. subst (λ r. IsSomeAnd (option_map steering_for (result_ok r)) P) (sym is.1) (subst P (sym is.2) holds))

sinks_are : (shelf shelf_new : ShelfState) (script capture : List ℕ) (input : Script × List (List ℕ)) (old new : List SinkState) (P : Steering → Type 0) → ReadsInput shelf shelf_new (kept_input_in script capture) (Ok input) → P (steering_for input) → SinksAre shelf (steering_in script capture) old new P
sinks_are shelf shelf_new script capture input old new P read holds =
    IfSome_then shelf.files (reads_steering shelf shelf_new script capture input read) (λ files is. subst (λ r. MatchOption (option_map steering_for (result_ok r)) (new ≡ old) P) (sym is.1) (subst P (sym is.2) holds))

steer_runs : {A : Type 0} (shelf shelf_new : ShelfState) (out out_new : OutputState) (script capture : List ℕ) (input : Script × List (List ℕ)) (result : Result A Stop) → ReadsInput shelf shelf_new (kept_input_in script capture) (Ok input) → RunsAs out out_new (done_outcome (steer_text (steering_for input))) result → FormEnds shelf shelf_new out out_new (outcome_in (Steer script capture)) result
unfolding outcome_in
steer_runs shelf shelf_new out out_new script capture input result read ran =
    outcome_runs shelf shelf_new out out_new (outcome_in (Steer script capture)) (done_outcome (steer_text (steering_for input))) result read.0
    (IfSome_then shelf.files (reads_steering shelf shelf_new script capture input read) (λ files is. ap (outcome_with (λ i. done_outcome (steer_text (steering_for i)))) is.1 ∙ ap (λ run. done_outcome (steer_text run)) is.2)) ran

pub steer_does : {A : Type 0} (shelf shelf_new : ShelfState) (out out_new : OutputState) (script capture : List ℕ) (input : Script × List (List ℕ)) (old new : List SinkState) (result : Result A Stop) → ReadsInput shelf shelf_new (kept_input_in script capture) (Ok input) → SteerRuns out out_new (done_outcome (steer_text (steering_for input))) result → SteersSinks (steering_for input) old new result → FormDoes (Steer script capture) shelf shelf_new out out_new old new result
steer_does shelf shelf_new out out_new script capture input old new (Ok x) read ran did = (
  steer_runs shelf shelf_new out out_new script capture input (Ok x) read ran,
  (λ other. absurd (cc)),
  sinks_are shelf shelf_new script capture input old new (λ run. AllSteered run old new) read did,
)
steer_does shelf shelf_new out out_new script capture input old new (Err stops.ReadFault) read ran did = absurd ran
steer_does shelf shelf_new out out_new script capture input old new (Err (stops.Refused refusal)) read ran did = absurd ran
steer_does {A = A} shelf shelf_new out out_new script capture input old new (Err stops.AlreadyRefused) read ran did =
    (steer_runs {A = A} shelf shelf_new out out_new script capture input (Err stops.AlreadyRefused) read ran, did)
steer_does {A = A} shelf shelf_new out out_new script capture input old new (Err stops.WriteFault) read ran did = (
  steer_runs {A = A} shelf shelf_new out out_new script capture input (Err stops.WriteFault) read ran,
  (λ other. absurd (cc)),
  sinks_are shelf shelf_new script capture input old new (λ run. FrontSteered run old new) read did,
)
steer_does shelf shelf_new out out_new script capture input old new (Err stops.SinkFault) read ran did = (
  read.0,
  ran,
  refl,
  (did.2, of_steering shelf shelf_new script capture input (λ run. OneRose run.pairs old new) read did.1),
  of_steering shelf shelf_new script capture input (λ run. FrontSteered run old new) read did.0,
)
steer_does {A = A} shelf shelf_new out out_new script capture input old new (Err stops.Memory) read ran did =
    (steer_runs {A = A} shelf shelf_new out out_new script capture input (Err stops.Memory) read ran, did)

-- ---- the device behind a script's commands

-- it steers as the script says
pub steering_is : (script : Script) (frames : List (List ℕ)) (device : DeviceState) → device ≡ state_after_items (start_state script.caps script.start) script.items → steering_on device frames ≡ steering_for (script, frames)
unfolding steering_for
steering_is script frames device is =
    ap (λ (d : DeviceState). steering_on d frames) is
    ∙ ap (λ (p : CapsParts). record { pairs = p.pairs; objects = (state_after_items (start_state script.caps script.start) script.items).objects; frames = frames }) (caps_behind (start_state script.caps script.start) script.items)

pub pairs_behind : (caps : CapsParts) (start : Start) (items : List Item) (device : DeviceState) → device ≡ state_after_items (start_state caps start) items → device.caps.pairs ≡ caps.pairs
pairs_behind caps start items device is =
    ap (λ (d : DeviceState). d.caps.pairs) is ∙ ap (λ (p : CapsParts). p.pairs) (caps_behind (start_state caps start) items)
