-- Reading an input in parts: what stops a part stops the whole, and what the parts give is what the whole gives.
use Rattle.std.proofs.Common.{◌≡◌, ℕ, List, Option, Some, None, Result, Ok, Err, length, refl, sym, ap, ◌∙◌, inl, inr, ⊎_elim}
use Rattle.std.specs.Prelude.{IsSomeAnd}
use Rattle.std.proofs.lemmas.Option.{IfSome_then}
use Rattle.split_queue.specs.DeviceEnds.{device_start}
use Rattle.split_queue.specs.Setup.{setup_fault}
use Rattle.split_queue.specs.declared.queue_place.Place.{Place}
use Rattle.split_queue.specs.declared.error.SetupErr.{SetupErr}
use Rattle.vnff_base.specs.Shelves.{Files, ShelfState}
use Rattle.vnff_run.specs.Endings.{ReadStops, ReadsInput, kept_script_in, script_stop}
use Rattle.vnff_run.specs.Inputs.{InputFault, file_bytes, queue_in, queue_or_refusal, script_in, script_or_refusal}
use Rattle.vnff_run.specs.Readings.{IsScriptFault, ReadsKept, with_kept}
use Rattle.vnff_run.specs.Results.{◌>>=◌}
use Rattle.vnff_run.specs.Grammar.{script_of}
use Rattle.vnff_run.specs.declared.script.Kept.{Kept}
use Rattle.vnff_run.specs.declared.script.Script.{Script}
use Rattle.vnff_run.specs.declared.error.ScriptFault.{ScriptFault}
use Rattle.vnff_run.specs.declared.error.ScriptFault.TheVariants as faults
use Rattle.vnff_run.specs.declared.stop.FileKind.TheVariants as kinds
use Rattle.vnff_run.specs.declared.stop.RefusedInput.TheVariants.{BadImage}
use Rattle.vnff_run.specs.declared.stop.Stop.{Stop}
use Rattle.vnff_run.specs.declared.stop.Stop.TheVariants as stops
use Rattle.vnff_run.proofs.ItemBounds.{both_done}

pub some_then : {A : Type 0} (o : Option A) {P Q : A → Type 0} → IsSomeAnd o P → ((x : A) → P x → Q x) → IsSomeAnd o Q
some_then None is then = is
some_then (Some x) is then = then x is

-- a fault of a first part is the whole's
pub read_stops : {A B : Type 0} (shelf shelf_new : ShelfState) (part : Files → Result A InputFault) (next : Files → A → Result B InputFault) (stop : Stop) → ReadStops shelf shelf_new part stop → ReadStops shelf shelf_new (λ files. part files >>= next files) stop
read_stops shelf shelf_new part next stops.ReadFault why =
    ⊎_elim inl (λ missing. inr (some_then shelf.files missing (λ files is. ap (λ p. p >>= next files) is))) why
read_stops shelf shelf_new part next (stops.Refused input) why =
    (why.0, IfSome_then shelf.files why.1 (λ files is. ap (λ p. p >>= next files) is))
read_stops shelf shelf_new part next stops.AlreadyRefused why = why
read_stops shelf shelf_new part next stops.WriteFault why = why
read_stops shelf shelf_new part next stops.SinkFault why = why
read_stops shelf shelf_new part next stops.Memory why = why

-- the bytes of a file are a script
pub script_read : (shelf shelf_new : ShelfState) (name bytes text : List ℕ) (script : Script) → ReadsInput shelf shelf_new (file_bytes kinds.Script name) (Ok bytes) → text ≡ bytes → script_of text ≡ Ok script → ReadsInput shelf shelf_new (script_in name) (Ok script)
unfolding script_in
script_read shelf shelf_new name bytes text script read same is =
    (read.0, IfSome_then shelf.files read.1 (λ files is_there. ap (λ p. p >>= λ b. script_or_refusal (script_of b)) (is_there ∙ ap Ok (sym same)) ∙ ap script_or_refusal is))

-- or they are refused, or memory runs out
pub script_stops : (shelf shelf_new : ShelfState) (name bytes text : List ℕ) (fault : ScriptFault) → ReadsInput shelf shelf_new (file_bytes kinds.Script name) (Ok bytes) → text ≡ bytes → IsScriptFault (script_of text) fault → ReadStops shelf shelf_new (script_in name) (script_stop fault)
unfolding script_in
script_stops shelf shelf_new name bytes text (faults.Bad line reason) read same is =
    (read.0, IfSome_then shelf.files read.1 (λ files is_there. ap (λ p. p >>= λ b. script_or_refusal (script_of b)) (is_there ∙ ap Ok (sym same)) ∙ ap script_or_refusal is))
script_stops shelf shelf_new name bytes text faults.Memory read same is = read.0

-- the bytes of a file are a script, of which some items are kept
pub kept_read : (shelf shelf_new : ShelfState) (kept : Kept) (name bytes text : List ℕ) (read : Script) → ReadsInput shelf shelf_new (file_bytes kinds.Script name) (Ok bytes) → text ≡ bytes → ReadsKept kept (script_of text) (Ok read) → ReadsInput shelf shelf_new (kept_script_in kept name) (Ok read)
kept_read shelf shelf_new kept name bytes text read was same is =
    let whole = both_done (script_of text) _ read is in
    let script = script_read shelf shelf_new name bytes text whole.0 was same whole.1 in
    let same : with_kept kept whole.0 ≡ read = cc in
    (script.0, IfSome_then shelf.files script.1 (λ files there. ap (λ p. p >>= λ (s : Script). Ok (with_kept kept s)) there ∙ ap Ok same))

-- an input that is the same for all files is read alike
pub reads_same : {A : Type 0} (shelf shelf_new : ShelfState) (input other : Files → Result A InputFault) (result : Result A Stop) → ((files : Files) → other files ≡ input files) → ReadsInput shelf shelf_new input result → ReadsInput shelf shelf_new other result
reads_same shelf shelf_new input other (Ok value) same read =
    (read.0, IfSome_then shelf.files read.1 (λ files is. same files ∙ is))
reads_same shelf shelf_new input other (Err stops.ReadFault) same read =
    ⊎_elim inl (λ missing. inr (some_then shelf.files missing (λ files is. same files ∙ is))) read
reads_same shelf shelf_new input other (Err (stops.Refused refusal)) same read =
    (read.0, IfSome_then shelf.files read.1 (λ files is. same files ∙ is))
reads_same shelf shelf_new input other (Err stops.AlreadyRefused) same read = read
reads_same shelf shelf_new input other (Err stops.WriteFault) same read = read
reads_same shelf shelf_new input other (Err stops.SinkFault) same read = read
reads_same shelf shelf_new input other (Err stops.Memory) same read = read

-- the bytes of a file are an image in which a queue can lie
pub queue_read : (shelf shelf_new : ShelfState) (name bytes image : List ℕ) (place : Place) → ReadsInput shelf shelf_new (file_bytes kinds.Image name) (Ok bytes) → image ≡ bytes → setup_fault place (length image) ≡ None → ReadsInput shelf shelf_new (queue_in name place) (Ok (image, device_start place (length image) 0))
unfolding queue_in
queue_read shelf shelf_new name bytes image place read same none =
    (read.0, IfSome_then shelf.files read.1 (λ files is_there. ap (λ p. p >>= queue_or_refusal place) (is_there ∙ ap Ok (sym same)) ∙ rw (queue_or_refusal, none) refl))

-- or they are refused
pub queue_stops : (shelf shelf_new : ShelfState) (name bytes image : List ℕ) (place : Place) (fault : SetupErr) → ReadsInput shelf shelf_new (file_bytes kinds.Image name) (Ok bytes) → image ≡ bytes → setup_fault place (length image) ≡ Some fault → ReadStops shelf shelf_new (queue_in name place) (stops.Refused (BadImage fault))
unfolding queue_in
queue_stops shelf shelf_new name bytes image place fault read same is =
    (read.0, IfSome_then shelf.files read.1 (λ files is_there. ap (λ p. p >>= queue_or_refusal place) (is_there ∙ ap Ok (sym same)) ∙ rw (queue_or_refusal, is) refl))
