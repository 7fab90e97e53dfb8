-- Frames that are drawn and classified one after another, queues by number, and the table of a load on its device.
use Rattle.std.proofs.Common.{◌≡◌, ℕ, ◌+◌, ◌<◌, List, [], ◌∷◌, ◌++◌, length, get_or, Option, Some, None, Result, Ok, Err, refl, sym, ap, ◌∙◌, zero-add}
use Rattle.std.specs.Prelude.{IfSome, ⊤}
use Rattle.std.specs.List.{enumerate_from}
use Rattle.std.proofs.lemmas.List.{length-map, map-append}
use Rattle.std.proofs.lemmas.List.FromFn.{get_or-enumerate_from, length-enumerate_from}
use Rattle.cap_table.specs.Caps.{CapsParts}
use Rattle.ff_headers.specs.Frames.{headers_of}
use Rattle.ff_headers.specs.declared.rule.Action.{Action}
use Rattle.generated_load.specs.Draws.{each_drawn}
use Rattle.generated_load.specs.DrawnFrames.{drawn_frame}
use Rattle.generated_load.specs.DrawnTables.{drawn_specs, drawn_table, load_caps}
use Rattle.generated_load.proofs.DrawLemmas.{each_drawn-length, each_drawn-more}
use Rattle.generated_load.proofs.RoomLemmas.{table_compiled}
use Rattle.ntuple_compile.specs.Compiled.{creates_of, objects_of}
use Rattle.ntuple_compile.specs.SpecFits.{table_action}
use Rattle.ntuple_text.specs.TableMaps.{TableMap}
use Rattle.vnff_base.specs.Outputs.{OutputState}
use Rattle.vnff_base.specs.Shelves.{Files, ShelfState}
use Rattle.vnff_run.specs.Endings.{FormEnds, JudgeStops, RunsAs}
use Rattle.vnff_run.specs.Forms.{Gen}
use Rattle.vnff_run.specs.Inputs.{InputFault, Refused}
use Rattle.vnff_run.specs.Loads.{actions_by, gen_text}
use Rattle.vnff_run.specs.Outcomes.{done_outcome, outcome_in}
use Rattle.vnff_run.specs.Results.{◌>>=◌}
use Rattle.vnff_run.proofs.EndingLemmas.{form_runs}
use Rattle.vnff_run.specs.TableInputs.{commands_or_refusal, compiled_for}
use Rattle.vnff_run.specs.declared.compiled.CompiledTable.{CompiledTable}
use Rattle.vnff_run.specs.declared.stop.Stop.{Stop}
use Rattle.vnff_run.specs.declared.stop.Stop.TheVariants as stops

-- ---- frames

-- the frames that are drawn from a state
abbrev pub frames_from : ℕ → ℕ → ℕ × List (List ℕ)
frames_from count x = each_drawn (λ _. drawn_frame) count x

pub actions-length : (table : TableMap) (count x : ℕ) → length (actions_by table (frames_from count x).1) ≡ count
actions-length table count x =
    length-map {B = Action} (frames_from count x).1 (λ frame. table_action table (headers_of frame)) ∙ each_drawn-length (λ _. drawn_frame) count x

-- one more frame
pub state_more : (count x state : ℕ) (drawn : ℕ × List ℕ) → state ≡ (frames_from count x).0 → drawn ≡ drawn_frame state → drawn.0 ≡ (frames_from (count + 1) x).0
state_more count x state drawn before is =
    ap (λ d. d.0) (is ∙ ap drawn_frame before) ∙ ap (λ d. d.0) (sym (each_drawn-more (λ _. drawn_frame) count x))

pub actions_more : (table : TableMap) (count x state : ℕ) (drawn : ℕ × List ℕ) (action : Action) → state ≡ (frames_from count x).0 → drawn ≡ drawn_frame state → action ≡ table_action table (headers_of drawn.1) → actions_by table (frames_from count x).1 ++ action ∷ [] ≡ actions_by table (frames_from (count + 1) x).1
actions_more table count x state drawn action before is does =
    let so_far = actions_by table (frames_from count x).1 in
    ap (λ a. so_far ++ a ∷ []) (does ∙ ap (λ d. table_action table (headers_of d.1)) (is ∙ ap drawn_frame before))
    ∙ sym (map-append {B = Action} (λ frame. table_action table (headers_of frame)) (frames_from count x).1 ((drawn_frame (frames_from count x).0).1 ∷ []))
    ∙ ap (λ drawn. actions_by table drawn.1) (sym (each_drawn-more (λ _. drawn_frame) count x))

-- ---- the form

told_or_not : {P : Files → Type 0} (told : Option Files) → ((files : Files) → P files) → IfSome told P
told_or_not None all = tt
told_or_not (Some files) all = all files

-- what is written is the outcome whatever the files are
pub load_ends : {A : Type 0} (shelf : ShelfState) (out out_new : OutputState) (seed frames : ℕ) (result : Result A Stop) → RunsAs out out_new (done_outcome (gen_text seed frames)) result → FormEnds shelf shelf out out_new (outcome_in (Gen seed frames)) result
unfolding outcome_in
load_ends shelf out out_new seed frames result ran =
    form_runs {A = ⊤} shelf shelf out out_new (λ _. Ok tt) (λ _. done_outcome (gen_text seed frames)) tt result (refl, told_or_not shelf.files (λ files. refl)) ran

-- ---- queues

-- a count and its queue
pub count_is : (counts : List ℕ) (i : ℕ) → i < length counts → (i, get_or counts i 0) ≡ get_or (enumerate_from 0 counts) i (i, 0)
count_is counts i within =
    sym (get_or-enumerate_from 0 counts i (i, 0) within ∙ ap {B = ℕ × ℕ} (λ n. (n, get_or counts i 0)) (zero-add i))

pub count_within : (counts : List ℕ) (i : ℕ) → i < length counts → i < length (enumerate_from 0 counts)
count_within counts i within = rw (length-enumerate_from 0 counts) within

-- ---- the table on its device

-- the table of a seed with its commands
abbrev load_of : ℕ → CompiledTable
load_of seed = record {
  caps = load_caps;
  table = drawn_table seed;
  commands = creates_of (objects_of load_caps.limits (drawn_specs seed).1);
}

load_compiled : (seed : ℕ) → compiled_for load_caps (drawn_table seed) ≡ Ok (load_of seed)
unfolding compiled_for
load_compiled seed =
    ap (λ commands. commands_or_refusal commands >>= λ cs. Ok (record { caps = load_caps; table = drawn_table seed; commands = cs })) (table_compiled seed)

table_of : TableMap → Result CompiledTable InputFault → TableMap
table_of other (Ok run) = run.table
table_of other (Err fault) = other

-- it is what the compiler gives
pub load_table : (seed : ℕ) (caps : CapsParts) (table : TableMap) (run : CompiledTable) → caps ≡ load_caps → table ≡ drawn_table seed → compiled_for caps table ≡ Ok run → run.table ≡ drawn_table seed
unfolding table_of
load_table seed caps table run its_caps its_table is =
    ap (table_of table) (sym is) ∙ ap (λ c. table_of table (compiled_for c table)) its_caps ∙ ap (λ t. table_of table (compiled_for load_caps t)) its_table ∙ ap (table_of table) (load_compiled seed)

-- nothing but memory can be missing
pub load_stops : (seed : ℕ) (caps : CapsParts) (table : TableMap) (stop : Stop) → caps ≡ load_caps → table ≡ drawn_table seed → JudgeStops (compiled_for caps table) stop → stop ≡ stops.Memory
load_stops seed caps table stops.Memory its_caps its_table why = refl
load_stops seed caps table (stops.Refused refusal) its_caps its_table why =
    let other : Ok (load_of seed) ≡ Err (Refused refusal) = sym (ap (λ c. compiled_for c table) its_caps ∙ ap (compiled_for load_caps) its_table ∙ load_compiled seed) ∙ why in
    absurd cc
load_stops seed caps table stops.ReadFault its_caps its_table why = absurd why
load_stops seed caps table stops.AlreadyRefused its_caps its_table why = absurd why
load_stops seed caps table stops.WriteFault its_caps its_table why = absurd why
load_stops seed caps table stops.SinkFault its_caps its_table why = absurd why
