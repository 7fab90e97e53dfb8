-- What a driver set is always allowed by the device's selectors.
use Rattle.std.proofs.Common.{◌≡◌, ℕ, zero, suc, ◌<◌, Bool, true, false, not, ◌&&◌, ◌||◌, cond, eqb, ltb, List, [], ◌∷◌, length, get_or, Option, Some, None, Result, Ok, Err, refl, ap, ◌∙◌, subst, arith}
use Rattle.std.specs.Prelude.{Contains, is_some}
use Rattle.std.specs.Int.Bits.{and_self}
use Rattle.std.specs.List.{list_any, list_all}
use Rattle.std.specs.Option.{option_map_or}
use Rattle.std.proofs.lemmas.Bool.{or_right}
use Rattle.ff_headers.specs.declared.field.Field.{Field}
use Rattle.ff_headers.specs.Kinds.{kind_code}
use Rattle.ff_headers.specs.SelectorParts.{SelectorParts}
use Rattle.ff_headers.specs.Shapes.{codes_of, rises}
use Rattle.ff_headers.specs.Fields.{is_partial, is_allowed, has_bits, keeps_field, value_at, fields_of}
use Rattle.ff_headers.proofs.Rising.{rises-from_increasing, rises_parts}
use Rattle.admin_wire.specs.declared.command.CapData.{CapData}
use Rattle.admin_wire.specs.declared.command.CapData.TheVariants as caps
use Rattle.admin_wire.specs.declared.command.RawList.TheVariants.{Good, Odd}
use Rattle.admin_wire.specs.declared.command.Command.{Command}
use Rattle.admin_wire.specs.declared.command.Command.TheVariants.{ListQuery, ListUse, CapIds, CapGet, CapSet, Create, Modify, Query, Destroy}
use Rattle.admin_wire.specs.declared.error.WireErr.{WireErr}
use Rattle.admin_wire.specs.Headers.{opcode_of}
use Rattle.admin_wire.specs.Wire.{command_of}
use Rattle.ff_headers.specs.declared.change.Change.{Change}
use Rattle.cap_table.specs.Caps.{CapsParts, DriverParts, AreSelectors, AreCaps, selector_of_kind}
use Rattle.cap_table.specs.CapSets.{cap_fault, with_cap, is_type_missing, is_mask_beyond, is_mask_refused, AreAllowed}
use Rattle.cap_table.specs.States.{DeviceState, start_state}
use Rattle.cap_table.specs.Verdicts.{first_verdict, verdict_rows, layout_rows, read_rows, command_rows}
use Rattle.cap_table.specs.Answers.{answer_of, verdict_of, accepted, refused_or, effect_for, effect_with, change_of}
use Rattle.cap_table.specs.Steps.{effect_of, effect_in, with_effect, next_state, state_after}
use Rattle.cap_table.specs.declared.error.CapErr.{CapErr}
use Rattle.cap_table.specs.declared.start.Start.{Start}
use Rattle.cap_table.specs.declared.start.Start.TheVariants.{Ready, Reset}
use Rattle.cap_table.specs.declared.verdict.Verdict.{Verdict}
use Rattle.cap_table.specs.declared.answer.Effect.{Effect}
use Rattle.cap_table.specs.declared.answer.Effect.TheVariants as effects
use Rattle.cap_table.proofs.RowLemmas.{back_of_none, clear}
use Rattle.cap_table.proofs.AcceptedChanges.{none_from_test}
use Rattle.cap_table.proofs.ObjectRuns.{apart, itself}
use Rattle.cap_table.proofs.UndoneCreates.{fails_everywhere}

-- ---- a selector allows itself

same_bits : (mask : List ℕ) → has_bits mask mask ≡ true
same_bits [] = refl
same_bits (byte ∷ mask) = rw (and_self byte, itself byte) (same_bits mask)

same_fields : (mask : List ℕ) (fields : List Field) → list_all (keeps_field mask mask) fields ≡ true
same_fields mask [] = refl
same_fields mask (f ∷ fields) = rw (or_right (eqb (value_at f mask) 0) _ (itself (value_at f mask))) (same_fields mask fields)

allows_itself : (s : SelectorParts) → is_allowed s s ≡ true
unfolding is_allowed
allows_itself s = by_test (is_partial s) where
  by_test : (b : Bool) → cond b (has_bits s.mask s.mask) (list_all (keeps_field s.mask s.mask) (fields_of s.kind)) ≡ true
  by_test true = same_bits s.mask
  by_test false = same_fields s.mask (fields_of s.kind)

not_beyond : (s : SelectorParts) → is_mask_beyond s s ≡ false
not_beyond s = rw (allows_itself s) (by_test (is_partial s)) where
  by_test : (b : Bool) → (b && not b) ≡ false
  by_test true = refl
  by_test false = refl

-- ---- a selector of a capability is found by its type

above : (c : ℕ) (list : List SelectorParts) (k : ℕ) (s : SelectorParts) → rises (c ∷ codes_of list) ≡ true → k < length list → get_or list k s ≡ s → c < kind_code s.kind
above c [] k s rising inside is = absurd (omega arith)
above c (x ∷ list) zero s rising inside is =
    let parts = rises_parts c (kind_code x.kind) (codes_of list) rising in
    subst (λ (y : SelectorParts). c < kind_code y.kind) is parts.0
above c (x ∷ list) (suc k) s rising inside is =
    let parts = rises_parts c (kind_code x.kind) (codes_of list) rising in
    let next = above (kind_code x.kind) list k s parts.1 (omega arith) is in
    omega (arith, parts.0, next)

tail_rises : (x : SelectorParts) (list : List SelectorParts) → rises (codes_of (x ∷ list)) ≡ true → rises (codes_of list) ≡ true
tail_rises x [] rising = refl
tail_rises x (y ∷ list) rising = let parts = rises_parts (kind_code x.kind) (kind_code y.kind) (codes_of list) rising in parts.1

found_at : (list : List SelectorParts) (k : ℕ) (s : SelectorParts) → rises (codes_of list) ≡ true → k < length list → get_or list k s ≡ s → selector_of_kind s.kind list ≡ Some s
found_at [] k s rising inside is = absurd (omega arith)
found_at (x ∷ list) zero s rising inside is = subst (λ (y : SelectorParts). cond (eqb (kind_code x.kind) (kind_code y.kind)) (Some x) (selector_of_kind y.kind list) ≡ Some y) is (rw (itself (kind_code x.kind)) refl)
found_at (x ∷ list) (suc k) s rising inside is =
    let below = above (kind_code x.kind) list k s rising (omega arith) is in
    rw (apart (kind_code x.kind) (kind_code s.kind) (λ e. absurd (omega arith))) (found_at list k s (tail_rises x list rising) (omega arith) is)

found : (list : List SelectorParts) (s : SelectorParts) → AreSelectors list → Contains list s → selector_of_kind s.kind list ≡ Some s
found list s good has = found_at list has.0 s (rises-from_increasing (codes_of list) good.rising) has.1 has.2

-- what the device offers is allowed by itself
own_allowed : (list : List SelectorParts) → AreSelectors list → AreAllowed list list
own_allowed list good = record {
  known = fails_everywhere (is_type_missing list) list (λ s has. ap (λ (o : Option SelectorParts). not (is_some o)) (found list s good has));
  masks = fails_everywhere (is_mask_refused list) list (λ s has. ap (λ (o : Option SelectorParts). option_map_or (λ one. is_mask_beyond one s) o false) (found list s good has) ∙ not_beyond s);
}

-- ---- a set

no_fault : (known masks : Bool) (first second : CapErr) → cond known (Some first) (cond masks (Some second) None) ≡ None → (known ≡ false) × (masks ≡ false)
no_fault true masks first second none = absurd cc
no_fault false true first second none = absurd cc
no_fault false false first second none = (refl, refl)

second_false : (a b : Bool) → (a || b) ≡ false → b ≡ false
second_false true b h = absurd cc
second_false false b h = h

allowed_set : (device : CapsParts) (driver : DriverParts) (wanted : CapData) → cap_fault device wanted ≡ None → AreAllowed device.selectors driver.selectors → AreAllowed device.selectors (with_cap driver wanted).selectors
unfolding cap_fault
allowed_set device driver (caps.Limits limits) none was = was
allowed_set device driver (caps.Selectors (Good list)) none was =
    let parts = no_fault (not (rises (codes_of list.items)) || list_any (is_type_missing device.selectors) list.items) (list_any (is_mask_refused device.selectors) list.items) _ _ none in
    record { known = second_false _ _ parts.0; masks = parts.1 }
allowed_set device driver (caps.Selectors Odd) none was = was
allowed_set device driver (caps.Actions actions) none was = was
allowed_set device driver (caps.Other id) none was = was

-- ---- every state

-- capabilities that an effect sets are allowed
abbrev Allows : DeviceState → Effect → Type 0
Allows state (effects.Caps driver) = AreAllowed state.caps.selectors driver.selectors
Allows state effects.Nothing = Unit {0}
Allows state (effects.Use opcodes) = Unit {0}
Allows state (effects.Change change) = Unit {0}

module _ (state : DeviceState) (was : AreAllowed state.caps.selectors state.driver.selectors) where
  allows_change : (put : Option Change) → Allows state (effect_with put)
  allows_change None = tt
  allows_change (Some change) = tt

  allows_command : (command : Command) → first_verdict (command_rows state.caps state.driver state.objects command) ≡ None → Allows state (effect_for state.driver command)
  allows_command ListQuery none = tt
  allows_command (ListUse bitmap) none = tt
  allows_command CapIds none = tt
  allows_command (CapGet id) none = tt
  allows_command (CapSet cap) none =
      let is = clear state.caps state.driver state.objects (CapSet cap) none in
      allowed_set state.caps state.driver cap (none_from_test (cap_fault state.caps cap) is.settable) was
  allows_command (Create head object) none = allows_change (change_of (Create head object))
  allows_command (Modify head object) none = allows_change (change_of (Modify head object))
  allows_command (Query head) none = tt
  allows_command (Destroy head) none = allows_change (change_of (Destroy head))

  allows_read : (read : Result Command WireErr) → first_verdict (read_rows state read) ≡ None → Allows state (accepted state read).effect
  allows_read (Ok command) none = allows_command command none
  allows_read (Err fault) none = tt

  allows_answer : (bytes : List ℕ) → Allows state (answer_of state bytes).effect
  unfolding answer_of
  allows_answer bytes = by_verdict (first_verdict (verdict_rows state bytes)) refl where
    by_verdict : (o : Option Verdict) → first_verdict (verdict_rows state bytes) ≡ o → Allows state (refused_or o (accepted state (command_of bytes))).effect
    by_verdict (Some verdict) is = tt
    by_verdict None is = allows_read (command_of bytes) (back_of_none (layout_rows state.in_use (opcode_of bytes) (command_of bytes)) (read_rows state (command_of bytes)) is)

  allows_effect : (bytes : List ℕ) (room : ℕ) → Allows state (effect_of state bytes room)
  unfolding verdict_of
  allows_effect bytes room = by_test (ltb room 8) where
    by_test : (b : Bool) → Allows state (effect_in (cond b None (Some (answer_of state bytes))))
    by_test true = tt
    by_test false = allows_answer bytes

  allowed_with : (effect : Effect) → Allows state effect → AreAllowed (with_effect state effect).caps.selectors (with_effect state effect).driver.selectors
  allowed_with effects.Nothing allows = was
  allowed_with (effects.Use opcodes) allows = was
  allowed_with (effects.Caps driver) allows = allows
  allowed_with (effects.Change change) allows = was

allowed_after : (state : DeviceState) (commands : List (List ℕ × ℕ)) → AreAllowed state.caps.selectors state.driver.selectors → AreAllowed (state_after state commands).caps.selectors (state_after state commands).driver.selectors
unfolding state_after
allowed_after state [] was = was
allowed_after state (sent ∷ commands) was =
    allowed_after (next_state state sent.0 sent.1) commands (allowed_with state was (effect_of state sent.0 sent.1) (allows_effect state was sent.0 sent.1))

allowed_at : (caps : CapsParts) (start : Start) → AreCaps caps → AreAllowed caps.selectors (start_state caps start).driver.selectors
allowed_at caps Ready are = own_allowed caps.selectors are.selectors
allowed_at caps Reset are = record { known = refl; masks = refl }

-- in every state of every run
pub always_allowed : (caps : CapsParts) (start : Start) (commands : List (List ℕ × ℕ)) → AreCaps caps → let state = state_after (start_state caps start) commands in AreAllowed state.caps.selectors state.driver.selectors
always_allowed caps start commands are = allowed_after (start_state caps start) commands (allowed_at caps start are)
