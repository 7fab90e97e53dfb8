-- Reading an input in parts, of which one is read after another or judged.
use Rattle.std.proofs.Common.{◌≡◌, ℕ, List, Option, Some, None, Result, Ok, Err, ap, subst, ◌∙◌, inl, inr, ⊎_elim}
use Rattle.std.specs.Prelude.{IfSome, IsSomeAnd}
use Rattle.std.proofs.lemmas.Option.{IfSome_then}
use Rattle.vnff_base.specs.Counts.{Rose}
use Rattle.vnff_base.specs.Shelves.{Files, ShelfState}
use Rattle.cap_table.specs.Caps.{CapsParts}
use Rattle.ntuple_text.specs.TableMaps.{TableMap}
use Rattle.ntuple_compile.specs.Compiled.{IsCompileFault, compiled}
use Rattle.ntuple_compile.specs.declared.error.CompileErr.{CompileErr}
use Rattle.ntuple_compile.specs.declared.error.CompileErr.TheVariants as errors
use Rattle.vnff_run.specs.Endings.{JudgeStops, Judges, ReadStops, ReadsInput}
use Rattle.vnff_run.specs.Programs.{compile_stop}
use Rattle.vnff_run.specs.TableInputs.{commands_or_refusal, compiled_for, frames_in}
use Rattle.vnff_run.specs.Inputs.{InputFault, Missing, Refused}
use Rattle.vnff_run.specs.Results.{◌>>=◌}
use Rattle.vnff_run.specs.declared.stop.Stop.{Stop}
use Rattle.vnff_run.specs.declared.stop.Stop.TheVariants as stops
use Rattle.vnff_run.proofs.InputLemmas.{read_stops}

-- a part was read, and what it gives is judged
pub read_judged : {A B : Type 0} (shelf read : ShelfState) (part : Files → Result A InputFault) (next : A → Result B InputFault) (value : A) (result : Result B Stop) → ReadsInput shelf read part (Ok value) → Judges (next value) result → ReadsInput shelf read (λ files. part files >>= next) result
read_judged shelf read part next value (Ok b) was judged =
    (was.0, IfSome_then shelf.files was.1 (λ files is. ap (λ p. p >>= next) is ∙ judged))
read_judged shelf read part next value (Err stops.ReadFault) was judged = absurd judged
read_judged shelf read part next value (Err (stops.Refused refusal)) was judged =
    (was.0, IfSome_then shelf.files was.1 (λ files is. ap (λ p. p >>= next) is ∙ judged))
read_judged shelf read part next value (Err stops.AlreadyRefused) was judged = absurd judged
read_judged shelf read part next value (Err stops.WriteFault) was judged = absurd judged
read_judged shelf read part next value (Err stops.SinkFault) was judged = absurd judged
read_judged shelf read part next value (Err stops.Memory) was judged = was.0

-- what holds of the told files before and behind a part
both_told : {P Q R : Files → Type 0} (o : Option Files) → IfSome o P → IfSome o Q → ((files : Files) → P files → Q files → R files) → IfSome o R
both_told None p q both = tt
both_told (Some files) p q both = both files p q

some_told : {P Q R : Files → Type 0} (o : Option Files) → IfSome o P → IsSomeAnd o Q → ((files : Files) → P files → Q files → R files) → IsSomeAnd o R
some_told None p q both = q
some_told (Some files) p q both = both files p q

-- a part was read, and then the next one is
pub read_then : {A B : Type 0} (shelf middle read : ShelfState) (part : Files → Result A InputFault) (next : A → Files → Result B InputFault) (value : A) (result : Result B Stop) → ReadsInput shelf middle part (Ok value) → middle.files ≡ shelf.files → ReadsInput middle read (next value) result → ReadsInput shelf read (λ files. part files >>= λ x. next x files) result
read_then shelf middle read part next value (Ok b) was same then =
    (then.0 ∙ was.0, both_told shelf.files was.1 (subst (λ o. IfSome o (λ files. next value files ≡ Ok b)) same then.1) (λ files is more. ap (λ p. p >>= λ x. next x files) is ∙ more))
read_then shelf middle read part next value (Err stops.ReadFault) was same then =
    ⊎_elim (λ rose. inl (subst (λ n. Rose n read.faults) was.0 rose))
    (λ missing. inr (some_told shelf.files was.1 (subst (λ o. IsSomeAnd o (λ files. next value files ≡ Err Missing)) same missing) (λ files is more. ap (λ p. p >>= λ x. next x files) is ∙ more)))
    then
read_then shelf middle read part next value (Err (stops.Refused refusal)) was same then =
    (then.0 ∙ was.0, both_told shelf.files was.1 (subst (λ o. IfSome o (λ files. next value files ≡ Err (Refused refusal))) same then.1) (λ files is more. ap (λ p. p >>= λ x. next x files) is ∙ more))
read_then shelf middle read part next value (Err stops.AlreadyRefused) was same then = absurd then
read_then shelf middle read part next value (Err stops.WriteFault) was same then = absurd then
read_then shelf middle read part next value (Err stops.SinkFault) was same then = absurd then
read_then shelf middle read part next value (Err stops.Memory) was same then = then ∙ was.0

-- a part was read, and then the frames of a capture; what the whole gives is made of both
pub frames_then : {A B : Type 0} (shelf middle read : ShelfState) (part : Files → Result A InputFault) (name : List ℕ) (make : A → List (List ℕ) → B) (value : A) (frames : List (List ℕ)) (result : Result B Stop) → ReadsInput shelf middle part (Ok value) → middle.files ≡ shelf.files → ReadsInput middle read (frames_in name) (Ok frames) → Judges (Ok (make value frames)) result → ReadsInput shelf read (λ files. part files >>= λ x. frames_in name files >>= λ frames. Ok (make x frames)) result
frames_then shelf middle read part name make value frames result was same got judged =
    read_then shelf middle read part (λ x files. frames_in name files >>= λ frames. Ok (make x frames)) value result was same
    (read_judged middle read (frames_in name) (λ frames. Ok (make value frames)) frames result got judged)

-- or the frames can't be read
pub frames_stop : {A B : Type 0} (shelf middle read : ShelfState) (part : Files → Result A InputFault) (name : List ℕ) (make : A → List (List ℕ) → B) (value : A) (stop : Stop) → ReadsInput shelf middle part (Ok value) → middle.files ≡ shelf.files → ReadStops middle read (frames_in name) stop → ReadStops shelf read (λ files. part files >>= λ x. frames_in name files >>= λ frames. Ok (make x frames)) stop
frames_stop shelf middle read part name make value stop was same why =
    read_then shelf middle read part (λ x files. frames_in name files >>= λ frames. Ok (make x frames)) value (Err stop) was same
    (read_stops middle read (frames_in name) (λ files frames. Ok (make value frames)) stop why)

-- why a table can't be compiled ends a form with its refusal, unless memory ran out
pub compiled_stops : (caps : CapsParts) (table : TableMap) (err : CompileErr) → IsCompileFault (compiled table caps) err → JudgeStops (compiled_for caps table) (compile_stop err)
unfolding compiled_for
compiled_stops caps table (errors.Unsupported loc kind) is = ap (λ r. commands_or_refusal r >>= λ commands. Ok (record { caps = caps; table = table; commands = commands })) is
compiled_stops caps table (errors.Rules count) is = ap (λ r. commands_or_refusal r >>= λ commands. Ok (record { caps = caps; table = table; commands = commands })) is
compiled_stops caps table (errors.Classifiers count) is = ap (λ r. commands_or_refusal r >>= λ commands. Ok (record { caps = caps; table = table; commands = commands })) is
compiled_stops caps table (errors.Levels count) is = ap (λ r. commands_or_refusal r >>= λ commands. Ok (record { caps = caps; table = table; commands = commands })) is
compiled_stops caps table (errors.PerGroup count) is = ap (λ r. commands_or_refusal r >>= λ commands. Ok (record { caps = caps; table = table; commands = commands })) is
compiled_stops caps table errors.Memory is = tt
