-- What the status of a form that was carried out, or stopped, says.
use Rattle.std.proofs.Common.{◌≡◌, ◌≢◌, ℕ, ◌≤◌, true, false, List, Option, Some, None, Result, Ok, Err, refl, sym, ap, ◌∙◌, subst, inl, inr, ◌⊎◌, ⊎_elim, arith, take, true≢false}
use Rattle.std.specs.Prelude.{IfSome, IsSomeAnd, MatchOption}
use Rattle.std.proofs.lemmas.Option.{IfSome_then}
use Rattle.rx_sinks.specs.Sinks.{SinkState}
use Rattle.vnff_base.specs.Counts.{Rose}
use Rattle.vnff_base.specs.Outputs.{OutputState, Stopped, Wrote, told_after}
use Rattle.vnff_base.specs.Shelves.{Files, ShelfState}
use Rattle.vnff_run.specs.Endings.{Appended, AppendedFront, AppendedNothing, IsStatusOf, IsUntouched, NoReadFailed, NoWriteFailed, ReadFailed, WhereTold, WriteFailed}
use Rattle.vnff_run.specs.Forms.{WordForm}
use Rattle.vnff_run.specs.Inputs.{Refused}
use Rattle.vnff_run.specs.Outcomes.{Outcome, fault_outcome, outcome_in, refusal_line}
use Rattle.vnff_run.specs.SteerEndings.{FormDoes, OfSteering, SinkFailed, SinksAre, SinksSteered}
use Rattle.vnff_run.specs.SteerInputs.{is_steer, steering_by}
use Rattle.vnff_run.specs.Steering.{AllSteered, FrontSteered, Steered, Steering}
use Rattle.vnff_run.specs.declared.stop.RefusedInput.{RefusedInput}
use Rattle.vnff_run.specs.declared.stop.Stop.{Stop}
use Rattle.vnff_run.specs.declared.stop.Stop.TheVariants as stops
use Rattle.vnff_run.proofs.EndingLemmas.{where_told, wrote_none}
use Rattle.vnff_run.proofs.InputLemmas.{some_then}

-- All that the program's call says of a form.
pub record Answered (form : WordForm) (shelf shelf_new : ShelfState) (out out_new : OutputState) (old new : List SinkState) (status : ℕ) : Type 0 where
  pub known : status ≤ 5
  pub words : status ≢ 2
  pub done : status ≤ 2 → WhereTold shelf (outcome_in form) (λ end. (status ≡ end.status) × Appended out out_new end.text)
  pub complete : WhereTold shelf (outcome_in form) (λ end. (status ≡ end.status) ⊎ (status ≡ 5) ⊎ ReadFailed shelf shelf_new ⊎ WriteFailed out out_new ⊎ SinkFailed shelf (steering_by (Some form)) old new)
  pub read : status ≡ 3 → ReadFailed shelf shelf_new ⊎ IsSomeAnd shelf.files (λ files. (outcome_in form files).status ≡ 3)
  pub read_nothing : status ≡ 3 → AppendedNothing out out_new
  pub write : status ≡ 4 → WriteFailed out out_new ⊎ (is_steer (Some form) ≡ true) × SinkFailed shelf (steering_by (Some form)) old new × AppendedNothing out out_new
  pub no_read : status ≢ 3 → NoReadFailed shelf shelf_new
  pub no_write : status ≢ 4 → NoWriteFailed out out_new
  pub front : 4 ≤ status → WhereTold shelf (outcome_in form) (λ end. AppendedFront out out_new end.text)
  pub other_sinks : is_steer (Some form) ≡ false → new ≡ old
  pub same_sinks : status ≢ 0 → status ≢ 4 → new ≡ old
  pub sinks : SinksSteered shelf (steering_by (Some form)) status old new

-- ---- the sinks

match_then : {P Q : Steering → Type 0} (Same : Type 0) (o : Option Steering) → MatchOption o Same P → ((run : Steering) → P run → Q run) → MatchOption o Same Q
match_then Same None is then = is
match_then Same (Some run) is then = then run is

sinks_then : (shelf : ShelfState) (steering : Files → Option Steering) (old new : List SinkState) (P Q : Steering → Type 0) → SinksAre shelf steering old new P → ((run : Steering) → P run → Q run) → SinksAre shelf steering old new Q
sinks_then shelf steering old new P Q are then = IfSome_then shelf.files are (λ files is. match_then {P = P} {Q = Q} (new ≡ old) (steering files) is then)

some_match : {P Q : Steering → Type 0} (Same : Type 0) (o : Option Steering) → IsSomeAnd o P → ((run : Steering) → P run → Q run) → MatchOption o Same Q
some_match Same None is then = absurd is
some_match Same (Some run) is then = then run is

sinks_of : (shelf : ShelfState) (steering : Files → Option Steering) (old new : List SinkState) (P Q : Steering → Type 0) → OfSteering shelf steering P → ((run : Steering) → P run → Q run) → SinksAre shelf steering old new Q
sinks_of shelf steering old new P Q of then = IfSome_then shelf.files of (λ files is. some_match {P = P} {Q = Q} (new ≡ old) (steering files) is then)

same_match : {Q : Steering → Type 0} {Same : Type 0} (o : Option Steering) → Same → ((run : Steering) → Q run) → MatchOption o Same Q
same_match None same all = same
same_match (Some run) same all = all run

-- nothing was done with the sinks
sinks_same : (shelf : ShelfState) (steering : Files → Option Steering) (old new : List SinkState) (status : ℕ) → new ≡ old → status ≢ 0 → status ≢ 4 → SinksSteered shelf steering status old new
sinks_same shelf steering old new status same some other =
    where_told shelf.files (λ files. same_match {Q = λ run. Steered run status old new} (steering files) same (λ run. record { done = λ is. absurd (some is); failed = λ is. absurd (other is); untouched = λ n m. same }))

-- there was nothing to do
sinks_none : (shelf : ShelfState) (steering : Files → Option Steering) (old new : List SinkState) (Q : Steering → Type 0) → new ≡ old → IfSome shelf.files (λ files. steering files ≡ None) → SinksAre shelf steering old new Q
sinks_none shelf steering old new Q same none = IfSome_then shelf.files none (λ files is. subst (λ o. MatchOption o (new ≡ old) Q) (sym is) same)

-- all, or a front
all_done : (run : Steering) (old new : List SinkState) → AllSteered run old new → Steered run 0 old new
all_done run old new all = record { done = λ is. all; failed = λ is. absurd (omega (arith, is)); untouched = λ n m. absurd (n refl) }

front_done : (run : Steering) (old new : List SinkState) → FrontSteered run old new → Steered run 4 old new
front_done run old new front = record { done = λ is. absurd (omega (arith, is)); failed = λ is. front; untouched = λ n m. absurd (m refl) }

-- ---- the output

-- a text behind what was left
wrote_behind : (a : OutputState) {b c : OutputState} {text : List ℕ} → IsUntouched a b → Wrote b c text → Appended a c text
wrote_behind a {text = text} left wrote = wrote.told ∙ ap (λ t. told_after t text) left.0

front_behind : (a : OutputState) {b c : OutputState} {text : List ℕ} → IsUntouched a b → Stopped b c text → AppendedFront a c text
front_behind a {text = text} left stopped = (stopped.told.0, stopped.told.1 ∙ ap (λ t. told_after t (take stopped.told.0 text)) left.0)

told_some : {P : Files → Type 0} {Q : Files → Type 0} (o : Option Files) → IsSomeAnd o P → ((files : Files) → P files → Q files) → IfSome o Q
told_some None is then = absurd is
told_some (Some files) is then = then files is

-- ---- each way to end

-- a form ended with its outcome, which has status 0 or 1, and the text was written
answer_of_outcome : {form : WordForm} {shelf shelf_new : ShelfState} {out out_new : OutputState} {old new : List SinkState} (status : ℕ) → status ≤ 1 → NoReadFailed shelf shelf_new → NoWriteFailed out out_new → WhereTold shelf (outcome_in form) (λ end. (status ≡ end.status) × Appended out out_new end.text) → (is_steer (Some form) ≡ false → new ≡ old) → (status ≢ 0 → new ≡ old) → SinksSteered shelf (steering_by (Some form)) status old new → Answered form shelf shelf_new out out_new old new status
answer_of_outcome {shelf = shelf} status low unread unwritten told other same steered = record {
  known = omega (arith, low);
  words = λ e. omega (arith, low, e);
  done = λ few. told;
  complete = IfSome_then shelf.files told (λ files end. inl end.0);
  read = λ e. absurd (omega (arith, low, e));
  read_nothing = λ e. absurd (omega (arith, low, e));
  write = λ e. absurd (omega (arith, low, e));
  no_read = λ n. unread;
  no_write = λ n. unwritten;
  front = λ e. absurd (omega (arith, low, e));
  other_sinks = other;
  same_sinks = λ n m. same n;
  sinks = steered;
}

write_or_sink : {Write Steer Sink Nothing : Type 0} → Write ⊎ Steer × Sink × Nothing → Write ⊎ Sink
write_or_sink (inl write) = inl write
write_or_sink (inr steer) = inr steer.1

-- a write or a sink failed, and a front of the outcome's text was written
answer_of_front : {form : WordForm} {shelf shelf_new : ShelfState} {out out_new : OutputState} {old new : List SinkState} → NoReadFailed shelf shelf_new → WriteFailed out out_new ⊎ (is_steer (Some form) ≡ true) × SinkFailed shelf (steering_by (Some form)) old new × AppendedNothing out out_new → WhereTold shelf (outcome_in form) (λ end. AppendedFront out out_new end.text) → (is_steer (Some form) ≡ false → new ≡ old) → SinksSteered shelf (steering_by (Some form)) 4 old new → Answered form shelf shelf_new out out_new old new 4
answer_of_front {shelf = shelf} unread why front other steered = record {
  known = omega arith;
  words = λ e. omega (arith, e);
  done = λ few. absurd (omega (arith, few));
  complete = where_told shelf.files (λ files. inr (inr (inr (write_or_sink why))));
  read = λ e. absurd (omega (arith, e));
  read_nothing = λ e. absurd (omega (arith, e));
  write = λ e. why;
  no_read = λ n. unread;
  no_write = λ n. absurd (n refl);
  front = λ e. front;
  other_sinks = other;
  same_sinks = λ n m. absurd (m refl);
  sinks = steered;
}

-- what was refused, and its line written
answer_of_refusal : {form : WordForm} {shelf shelf_new : ShelfState} {out middle out_new : OutputState} {old new : List SinkState} (input : RefusedInput) → NoReadFailed shelf shelf_new → IsUntouched out middle → WhereTold shelf (outcome_in form) (λ end. end ≡ fault_outcome (Refused input)) → new ≡ old → Wrote middle out_new (refusal_line input) → Answered form shelf shelf_new out out_new old new 1
answer_of_refusal {form = form} {shelf = shelf} {out = out} {out_new = out_new} {old = old} {new = new} input unread left is same wrote =
    let told : WhereTold shelf (outcome_in form) (λ end. (1 ≡ end.status) × Appended out out_new end.text) =
    IfSome_then shelf.files is (λ files end. (sym (ap (λ (o : Outcome). o.status) end), subst (λ (o : Outcome). Appended out out_new o.text) (sym end) (wrote_behind out left wrote))) in
    answer_of_outcome 1 (omega arith) unread (wrote.faults ∙ left.1) told (λ other. same) (λ n. same)
    (sinks_same shelf (steering_by (Some form)) old new 1 same (λ e. omega (arith, e)) (λ e. omega (arith, e)))

-- what was refused, where a write failed
answer_of_unwritten_refusal : {form : WordForm} {shelf shelf_new : ShelfState} {out middle out_new : OutputState} {old new : List SinkState} (input : RefusedInput) → NoReadFailed shelf shelf_new → IsUntouched out middle → WhereTold shelf (outcome_in form) (λ end. end ≡ fault_outcome (Refused input)) → new ≡ old → IfSome shelf.files (λ files. steering_by (Some form) files ≡ None) → Stopped middle out_new (refusal_line input) → Answered form shelf shelf_new out out_new old new 4
answer_of_unwritten_refusal {form = form} {shelf = shelf} {out = out} {out_new = out_new} {old = old} {new = new} input unread left is same none stopped =
    let rose : WriteFailed out out_new = subst (λ n. Rose n out_new.faults) left.1 stopped.rose in
    let front : WhereTold shelf (outcome_in form) (λ end. AppendedFront out out_new end.text) =
    IfSome_then shelf.files is (λ files end. subst (λ (o : Outcome). AppendedFront out out_new o.text) (sym end) (front_behind out left stopped)) in
    answer_of_front unread (inl rose) front (λ other. same)
    (sinks_none shelf (steering_by (Some form)) old new (λ run. Steered run 4 old new) same none)

pub answer_of_form : {A : Type 0} (form : WordForm) (shelf shelf_new : ShelfState) (out middle out_new : OutputState) (old new : List SinkState) (result : Result A Stop) (status : ℕ) → FormDoes form shelf shelf_new out middle old new result → IsStatusOf middle out_new result status → Answered form shelf shelf_new out out_new old new status
answer_of_form form shelf shelf_new out middle out_new old new (Ok x) status did said =
    let told : WhereTold shelf (outcome_in form) (λ end. (0 ≡ end.status) × Appended out out_new end.text) =
    IfSome_then shelf.files did.0.2 (λ files end. (sym end.0, said.1.0 ∙ end.1.told)) in
    subst (Answered form shelf shelf_new out out_new old new) (sym said.0)
    (answer_of_outcome 0 (omega arith) did.0.0 (said.1.1 ∙ did.0.1) told did.1 (λ n. absurd (n refl))
    (sinks_then shelf (steering_by (Some form)) old new (λ run. AllSteered run old new) (λ run. Steered run 0 old new) did.2 (λ run all. all_done run old new all)))
answer_of_form form shelf shelf_new out middle out_new old new (Err stops.ReadFault) status did said = subst (Answered form shelf shelf_new out out_new old new) (sym said.0) (record {
  known = omega arith;
  words = λ e. omega (arith, e);
  done = λ few. absurd (omega (arith, few));
  complete = ⊎_elim
      (λ (rose : ReadFailed shelf shelf_new). where_told shelf.files (λ files. inr (inr (inl rose))))
      (λ missing. told_some shelf.files missing (λ files is. inl (sym (ap (λ (o : Outcome). o.status) is))))
      did.0.1;
  read = λ e. ⊎_elim inl (λ missing. inr (some_then shelf.files missing (λ files is. ap (λ (o : Outcome). o.status) is))) did.0.1;
  read_nothing = λ e. said.1.0 ∙ did.0.0.0;
  write = λ e. absurd (omega (arith, e));
  no_read = λ n. absurd (n refl);
  no_write = λ n. said.1.1 ∙ did.0.0.1;
  front = λ e. absurd (omega (arith, e));
  other_sinks = λ other. did.1;
  same_sinks = λ n m. did.1;
  sinks = sinks_same shelf (steering_by (Some form)) old new 3 did.1 (λ e. omega (arith, e)) (λ e. omega (arith, e));
})
answer_of_form form shelf shelf_new out middle out_new old new (Err (stops.Refused input)) status did said =
    ⊎_elim
    (λ (written : (status ≡ 1) × Wrote middle out_new (refusal_line input)).
    subst (Answered form shelf shelf_new out out_new old new) (sym written.0) (answer_of_refusal {middle = middle} input did.0.0 did.0.1 did.0.2 did.1 written.1))
    (λ (failed : (status ≡ 4) × Stopped middle out_new (refusal_line input)).
    subst (Answered form shelf shelf_new out out_new old new) (sym failed.0) (answer_of_unwritten_refusal {middle = middle} input did.0.0 did.0.1 did.0.2 did.1 did.2 failed.1))
    said
answer_of_form form shelf shelf_new out middle out_new old new (Err stops.AlreadyRefused) status did said =
    let told : WhereTold shelf (outcome_in form) (λ end. (1 ≡ end.status) × Appended out out_new end.text) =
    IfSome_then shelf.files did.0.2 (λ files end. (sym end.0, said.1.0 ∙ end.1.told)) in
    subst (Answered form shelf shelf_new out out_new old new) (sym said.0)
    (answer_of_outcome 1 (omega arith) did.0.0 (said.1.1 ∙ did.0.1) told (λ other. did.1) (λ n. did.1)
    (sinks_same shelf (steering_by (Some form)) old new 1 did.1 (λ e. omega (arith, e)) (λ e. omega (arith, e))))
answer_of_form form shelf shelf_new out middle out_new old new (Err stops.WriteFault) status did said =
    let rose : WriteFailed out out_new = subst (λ n. Rose out.faults n) (sym said.1.1) did.0.1 in
    let front : WhereTold shelf (outcome_in form) (λ end. AppendedFront out out_new end.text) =
    IfSome_then shelf.files did.0.2 (λ files end. (end.0, said.1.0 ∙ end.1)) in
    subst (Answered form shelf shelf_new out out_new old new) (sym said.0)
    (answer_of_front did.0.0 (inl rose) front did.1
    (sinks_then shelf (steering_by (Some form)) old new (λ run. FrontSteered run old new) (λ run. Steered run 4 old new) did.2 (λ run front. front_done run old new front)))
answer_of_form form shelf shelf_new out middle out_new old new (Err stops.SinkFault) status did said =
    let nothing : AppendedNothing out out_new = said.1.0 ∙ did.1.0 in
    let front : WhereTold shelf (outcome_in form) (λ end. AppendedFront out out_new end.text) =
    where_told shelf.files (λ files. wrote_none out out_new (outcome_in form files).text nothing) in
    subst (Answered form shelf shelf_new out out_new old new) (sym said.0)
    (answer_of_front did.0 (inr (did.2, did.3, nothing)) front (λ other. absurd (true≢false (sym did.2 ∙ other)))
    (sinks_of shelf (steering_by (Some form)) old new (λ run. FrontSteered run old new) (λ run. Steered run 4 old new) did.4 (λ run front. front_done run old new front)))
answer_of_form form shelf shelf_new out middle out_new old new (Err stops.Memory) status did said = subst (Answered form shelf shelf_new out out_new old new) (sym said.0) (record {
  known = omega arith;
  words = λ e. omega (arith, e);
  done = λ few. absurd (omega (arith, few));
  complete = where_told shelf.files (λ files. inr (inl refl));
  read = λ e. absurd (omega (arith, e));
  read_nothing = λ e. absurd (omega (arith, e));
  write = λ e. absurd (omega (arith, e));
  no_read = λ n. did.0.0;
  no_write = λ n. said.1.1 ∙ did.0.1;
  front = λ e. IfSome_then shelf.files did.0.2 (λ files end. (end.0, said.1.0 ∙ end.1));
  other_sinks = λ other. did.1;
  same_sinks = λ n m. did.1;
  sinks = sinks_same shelf (steering_by (Some form)) old new 5 did.1 (λ e. omega (arith, e)) (λ e. omega (arith, e));
})
