-- What an effect of the machine is: nothing, opcodes with the two that always are in use, capabilities within the device's, or
-- the change of an accepted command. So valid states stay valid.
use Rattle.std.proofs.Common.{◌≡◌, ℕ, ◌∙◌, Bool, true, false, cond, List, [], ◌∷◌, Option, Some, None, Result, Ok, Err, refl, subst, arith, inl, inr}
use Rattle.std.specs.Prelude.{nat_lt, is_some}
use Rattle.std.specs.Int.{bit_at}
use Rattle.std.proofs.lemmas.Nat.Bits.{bit_at_or, bit_at-lt}
use Rattle.std.specs.List.{AllByRecursion}
use Rattle.std.specs.Ordering.{nat_cmp}
use Rattle.std.specs.BTreeMap.{is_at}
use Rattle.std.specs.declared.cmp.Ordering.TheVariants.{Less, Equal, Greater}
use Rattle.std.proofs.lemmas.Bool.{cases_lt}
use Rattle.std.proofs.lemmas.List.Elements.{All-nil}
use Rattle.ff_headers.specs.SelectorParts.{IsWhole}
use Rattle.std.proofs.lemmas.Bool.Decides.{nat_tests}
use Rattle.ff_headers.specs.Changes.{is_sound, put, without, with_change_made, step}
use Rattle.ff_headers.specs.declared.change.Change.{Change}
use Rattle.ff_headers.specs.declared.change.Change.TheVariants.{PutGroup, DropGroup, PutClassifier, DropClassifier, PutRule, DropRule, Close}
use Rattle.ff_headers.proofs.ChangeLemmas.{step_keeps, none_are_well_formed}
use Rattle.admin_wire.specs.declared.command.Command.{Command}
use Rattle.admin_wire.specs.declared.command.Command.TheVariants.{ListQuery, ListUse, CapIds, CapGet, CapSet, Create, Modify, Query, Destroy}
use Rattle.admin_wire.specs.declared.error.WireErr.{WireErr}
use Rattle.admin_wire.specs.Wire.{command_of}
use Rattle.admin_wire.specs.Headers.{opcode_of}
use Rattle.cap_table.specs.Caps.{CapsParts, AreCaps}
use Rattle.cap_table.specs.States.{DeviceState, QueuesWithin, IsValid, start_state}
use Rattle.cap_table.specs.CapSets.{cap_fault, IsDriverWithin}
use Rattle.cap_table.specs.Verdicts.{first_verdict, verdict_rows, layout_rows, read_rows, command_rows}
use Rattle.cap_table.specs.Answers.{answer_of, verdict_of, accepted, refused_or, effect_with, effect_for, change_of, opcodes_used}
use Rattle.cap_table.specs.Steps.{effect_of, effect_in, with_effect, next_state, state_after, IsEffect}
use Rattle.cap_table.specs.declared.start.Start.{Start}
use Rattle.cap_table.specs.declared.start.Start.TheVariants.{Ready, Reset}
use Rattle.cap_table.specs.declared.verdict.Verdict.{Verdict}
use Rattle.cap_table.specs.declared.answer.Effect.{Effect}
use Rattle.cap_table.specs.declared.answer.Effect.TheVariants as effects
use Rattle.cap_table.specs.declared.error.CapErr.{CapErr}
use Rattle.cap_table.proofs.RowLemmas.{back_of_none, clear}
use Rattle.cap_table.proofs.AcceptedChanges.{IsAccepted, accepted_change}
use Rattle.cap_table.proofs.SettingLemmas.{within_if_whole}
use Rattle.cap_table.proofs.ReadCommands.{cap_whole}

-- how two ids compare
data ComparesTo (a b : ℕ) : Type 0 where
  lesser : nat_cmp a b ≡ Less → ComparesTo a b
  same : a ≡ b → nat_cmp a b ≡ Equal → ComparesTo a b
  greater : nat_cmp a b ≡ Greater → ComparesTo a b

compared : (a b : ℕ) → ComparesTo a b
compared a b = elim (cases_lt a b) [
  | inl lt ↦ lesser (grind (arith, nat_tests))
  | inr le ↦ elim (cases_lt b a) [
    | inl gt ↦ greater (grind (arith, nat_tests))
    | inr ge ↦ let is : a ≡ b = omega arith in same is (grind (arith, nat_tests))
  ]
]

-- what holds of each entry, and of the one that is put
all_put : {X : Type 0} (P : ℕ × X → Type 0) (es : List (ℕ × X)) (id : ℕ) (x : X) → P (id, x) → AllByRecursion P es → AllByRecursion P (put es id x)
all_put P [] id x here all = (here, tt)
all_put P (e ∷ es) id x here all = elim (compared id e.0) [
  | lesser h ↦ rw h (here, all)
  | same is h ↦ rw h (subst (λ (i : ℕ). P (i, x)) is here, all.1)
  | greater h ↦ rw h (all.0, all_put P es id x here all.1)
]

-- what holds of each entry holds once one is removed
all_without : {X : Type 0} (P : ℕ × X → Type 0) (es : List (ℕ × X)) (id : ℕ) → AllByRecursion P es → AllByRecursion P (without es id)
all_without P [] id all = tt
all_without P (e ∷ es) id all = by_test (is_at (nat_cmp id) e.0) (all_without P es id all.1) where
  by_test : (b : Bool) → AllByRecursion P (without es id) → AllByRecursion P (cond b es (e ∷ without es id))
  by_test true rest = all.1
  by_test false rest = (all.0, rest)

-- nothing, opcodes with the two that always are in use, capabilities within the device's, or the change of an accepted command
abbrev pub IsSafe : DeviceState → Effect → Type 0
IsSafe state effects.Nothing = Unit {0}
IsSafe state (effects.Use opcodes) = (bit_at opcodes 0 ≡ 1) × (bit_at opcodes 1 ≡ 1)
IsSafe state (effects.Caps driver) = IsDriverWithin state.caps driver
IsSafe state (effects.Change change) = IsAccepted state.caps state.objects change

-- the two opcodes stay
bit_stays : (bitmap i : ℕ) → bit_at 3 i ≡ 1 → bit_at (opcodes_used bitmap) i ≡ 1
bit_stays bitmap i is = bit_at_or bitmap 3 i ∙ (let one = bit_at-lt bitmap i in omega (arith, is, one))

no_fault : (o : Option CapErr) → is_some o ≡ false → o ≡ None
no_fault None is = refl
no_fault (Some fault) is = absurd cc

module _ (state : DeviceState) (valid : IsValid state) where
  safe_change : (command : Command) → first_verdict (command_rows state.caps state.driver state.objects command) ≡ None → (change : Option Change) → change_of command ≡ change → IsSafe state (effect_with change)
  safe_change command none None is = tt
  safe_change command none (Some change) is = accepted_change state.caps state.driver state.objects valid.limits command none change is

  safe_command : (bytes : List ℕ) (command : Command) → command_of bytes ≡ Ok command → first_verdict (command_rows state.caps state.driver state.objects command) ≡ None → IsSafe state (effect_for state.driver command)
  safe_command bytes ListQuery read none = tt
  safe_command bytes (ListUse bitmap) read none = (bit_stays bitmap 0 refl, bit_stays bitmap 1 refl)
  safe_command bytes CapIds read none = tt
  safe_command bytes (CapGet id) read none = tt
  safe_command bytes (CapSet cap) read none =
      let is = clear state.caps state.driver state.objects (CapSet cap) none in
      within_if_whole state.caps state.driver cap (cap_whole bytes cap read) (no_fault (cap_fault state.caps cap) is.settable) (record { limits = valid.limits; selectors = valid.selectors })
  safe_command bytes (Create head object) read none = safe_change (Create head object) none _ refl
  safe_command bytes (Modify head object) read none = safe_change (Modify head object) none _ refl
  safe_command bytes (Query head) read none = tt
  safe_command bytes (Destroy head) read none = safe_change (Destroy head) none _ refl

  safe_read : (bytes : List ℕ) (read : Result Command WireErr) → command_of bytes ≡ read → first_verdict (read_rows state read) ≡ None → IsSafe state (accepted state read).effect
  safe_read bytes (Ok command) is none = safe_command bytes command is none
  safe_read bytes (Err fault) is none = tt

  safe_answer : (bytes : List ℕ) → IsSafe state (answer_of state bytes).effect
  unfolding answer_of
  safe_answer bytes = by_verdict (first_verdict (verdict_rows state bytes)) refl where
    by_verdict : (o : Option Verdict) → first_verdict (verdict_rows state bytes) ≡ o → IsSafe state (refused_or o (accepted state (command_of bytes))).effect
    by_verdict (Some verdict) is = tt
    by_verdict None is =
        let rest = back_of_none (layout_rows state.in_use (opcode_of bytes) (command_of bytes)) (read_rows state (command_of bytes)) is in
        safe_read bytes (command_of bytes) refl rest

  safe_effect : (bytes : List ℕ) (room : ℕ) → IsSafe state (effect_of state bytes room)
  unfolding verdict_of
  safe_effect bytes room = by_test (nat_lt room 8) where
    by_test : (b : Bool) → IsSafe state (effect_in (cond b None (Some (answer_of state bytes))))
    by_test true = tt
    by_test false = safe_answer bytes

  -- an effect that the machine has is safe
  pub safe_from_effect : (effect : Effect) → IsEffect state effect → IsSafe state effect
  safe_from_effect effect is = subst (IsSafe state) is.2 (safe_effect is.0 is.1)

  queues_kept : (change : Change) → IsAccepted state.caps state.objects change → AllByRecursion (QueuesWithin state.caps.pairs) (with_change_made state.objects change).rules
  unfolding with_change_made
  queues_kept (PutRule id rule) accepted = all_put (QueuesWithin state.caps.pairs) state.objects.rules id rule (accepted.queues id rule refl) valid.queues
  queues_kept (DropRule id) accepted = all_without (QueuesWithin state.caps.pairs) state.objects.rules id valid.queues
  queues_kept (PutGroup id priority) accepted = valid.queues
  queues_kept (DropGroup id) accepted = valid.queues
  queues_kept (PutClassifier id selectors) accepted = valid.queues
  queues_kept (DropClassifier id) accepted = valid.queues
  queues_kept Close accepted = valid.queues

  -- the state stays valid
  valid_with : (effect : Effect) → IsSafe state effect → IsValid (with_effect state effect)
  unfolding step
  valid_with effects.Nothing safe = valid
  valid_with (effects.Use opcodes) safe = record {
    objects = valid.objects;
    limits = valid.limits;
    selectors = valid.selectors;
    queues = valid.queues;
    list_query = safe.0;
    list_use = safe.1;
  }
  valid_with (effects.Caps driver) safe = record {
    objects = valid.objects;
    limits = safe.limits;
    selectors = safe.selectors;
    queues = valid.queues;
    list_query = valid.list_query;
    list_use = valid.list_use;
  }
  valid_with (effects.Change change) safe = record {
    objects = step_keeps state.caps.limits state.objects valid.objects change safe.shaped;
    limits = valid.limits;
    selectors = valid.selectors;
    queues = rw safe.sound (queues_kept change safe);
    list_query = valid.list_query;
    list_use = valid.list_use;
  }

  pub valid_with_effect : (effect : Effect) → IsEffect state effect → IsValid (with_effect state effect)
  valid_with_effect effect is = valid_with effect (safe_from_effect effect is)

-- the start is valid
pub start_is_valid : (caps : CapsParts) (start : Start) → AreCaps caps → IsValid (start_state caps start)
start_is_valid caps Ready are = record {
  objects = none_are_well_formed caps.limits;
  limits = record { groups = omega arith; classifiers = omega arith; rules = omega arith; per_group = omega arith; last_priority = omega arith; selectors = omega arith };
  selectors = are.selectors;
  queues = tt;
  list_query = refl;
  list_use = refl;
}
start_is_valid caps Reset are = record {
  objects = none_are_well_formed caps.limits;
  limits = record { groups = omega arith; classifiers = omega arith; rules = omega arith; per_group = omega arith; last_priority = omega arith; selectors = omega arith };
  selectors = record { rising = λ k lt. absurd (omega arith); whole = All-nil IsWhole };
  queues = tt;
  list_query = refl;
  list_use = refl;
}

-- every state of a run is valid
pub valid_after : (state : DeviceState) (commands : List (List ℕ × ℕ)) → IsValid state → IsValid (state_after state commands)
unfolding state_after
valid_after state [] valid = valid
valid_after state (command ∷ commands) valid =
    valid_after (next_state state command.0 command.1) commands (valid_with_effect state valid (effect_of state command.0 command.1) (command.0, command.1, refl))

-- the change of an accepted command is sound
pub accepted_is_sound : (state : DeviceState) (bytes : List ℕ) (room : ℕ) (change : Change) → IsValid state → effect_of state bytes room ≡ effects.Change change → is_sound state.caps.limits state.objects change ≡ true
accepted_is_sound state bytes room change valid is =
    let safe : IsSafe state (effects.Change change) = safe_from_effect state valid (effects.Change change) (bytes, room, is) in
    safe.sound
