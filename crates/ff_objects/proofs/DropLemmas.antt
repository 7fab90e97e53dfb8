-- A sound drop is of a group or a classifier that no rule names.
use Rattle.std.proofs.Common.{◌≡◌, ◌≢◌, ℕ, arith, true, false, eqb, Result, Ok, Err}
use Rattle.std.proofs.lemmas.Bool.{not-true}
use Rattle.std.proofs.lemmas.Bool.Decides.{nat_tests}
use Rattle.std.specs.Prelude.{IfOk}
use Rattle.ff_headers.specs.Objects.{FlowObjects}
use Rattle.ff_headers.specs.Changes.{is_sound, names_group, names_classifier}
use Rattle.ff_headers.specs.declared.limits.Limits.{Limits}
use Rattle.ff_headers.specs.declared.change.Change.{Change}
use Rattle.ff_headers.specs.declared.change.Change.TheVariants.{PutGroup, DropGroup, PutClassifier, DropClassifier, PutRule, DropRule, Close}
use Rattle.ff_headers.proofs.EntryLemmas.{fails_at_held}
use Rattle.cap_table.specs.declared.verdict.Verdict.{Verdict}
use Rattle.ff_objects.specs.Drops.{DropsUnnamed}

other : (a b : ℕ) → eqb a b ≡ false → a ≢ b
other a b differ same = absurd (grind (arith, nat_tests))

drops_unnamed : (limits : Limits) (objects : FlowObjects) (change : Change)
    → is_sound limits objects change ≡ true → DropsUnnamed objects change
unfolding is_sound
drops_unnamed limits objects (DropGroup id) sound = λ at rule held.
    let none = not-true (names_group objects id) sound in
    other rule.group id (fails_at_held (λ e. eqb e.1.group id) objects.rules at rule none held)
drops_unnamed limits objects (DropClassifier id) sound = λ at rule held.
    let none = not-true (names_classifier objects id) sound in
    other rule.classifier id (fails_at_held (λ e. eqb e.1.classifier id) objects.rules at rule none held)
drops_unnamed limits objects (PutGroup id priority) sound = tt
drops_unnamed limits objects (PutClassifier id selectors) sound = tt
drops_unnamed limits objects (PutRule id rule) sound = tt
drops_unnamed limits objects (DropRule id) sound = tt
drops_unnamed limits objects Close sound = tt

-- so is a change that was answered
pub answers_unnamed : (limits : Limits) (objects : FlowObjects) (result : Result Change Verdict)
    → IfOk result (λ change. is_sound limits objects change ≡ true)
    → IfOk result (DropsUnnamed objects)
answers_unnamed limits objects (Ok change) sound = drops_unnamed limits objects change sound
answers_unnamed limits objects (Err verdict) sound = tt
