-- The commit of an effect that the machine has keeps the parts of a device in order.
use Rattle.std.proofs.Common.{◌≡◌, ℕ, sym, subst}
use Rattle.ff_headers.specs.Objects.{FlowObjects}
use Rattle.ff_headers.specs.Changes.{step}
use Rattle.ff_headers.specs.declared.limits.Limits.{Limits}
use Rattle.ff_headers.specs.declared.change.Change.{Change}
use Rattle.ff_store.specs.LimitedObjects.{LimitedObjects, with_change}
use Rattle.cap_table.specs.Caps.{CapsParts, DriverParts}
use Rattle.cap_table.specs.States.{DeviceState, IsValid}
use Rattle.cap_table.specs.Steps.{IsEffect}
use Rattle.cap_table.specs.declared.answer.Effect.{Effect}
use Rattle.cap_table.specs.declared.answer.Effect.TheVariants as effects
use Rattle.cap_table.proofs.ValidSteps.{valid_with_effect}
use Rattle.admin_dev.specs.DeviceParts.{state_of, AreParts}

-- opcodes and capabilities that the machine gives take the place of those before them
module _ (caps : CapsParts) (in_use : ℕ) (driver : DriverParts) (kept : LimitedObjects) (parts : AreParts caps in_use driver kept) (state : DeviceState) (view : state_of caps in_use driver kept ≡ state) where
  pub parts_used : (effect : Effect) → IsEffect state effect → (opcodes : ℕ) → effect ≡ effects.Use opcodes → AreParts caps opcodes driver kept
  parts_used effect has opcodes is =
      let has_use : IsEffect (state_of caps in_use driver kept) (effects.Use opcodes) = subst (λ (s : DeviceState). IsEffect s (effects.Use opcodes)) (sym view) (subst (IsEffect state) is has) in
      record { limits = parts.limits; valid = valid_with_effect (state_of caps in_use driver kept) parts.valid (effects.Use opcodes) has_use }

  pub parts_set : (effect : Effect) → IsEffect state effect → (set : DriverParts) → effect ≡ effects.Caps set → AreParts caps in_use set kept
  parts_set effect has set is =
      let has_caps : IsEffect (state_of caps in_use driver kept) (effects.Caps set) = subst (λ (s : DeviceState). IsEffect s (effects.Caps set)) (sym view) (subst (IsEffect state) is has) in
      record { limits = parts.limits; valid = valid_with_effect (state_of caps in_use driver kept) parts.valid (effects.Caps set) has_caps }

pub parts_kept : (caps : CapsParts) (in_use : ℕ) (driver : DriverParts) (kept : LimitedObjects) → AreParts caps in_use driver kept → (state : DeviceState) → state_of caps in_use driver kept ≡ state → (effect : Effect) → IsEffect state effect → (change : Change) → effect ≡ effects.Change change → (after : LimitedObjects) → after ≡ with_change kept change → AreParts caps in_use driver after
parts_kept caps in_use driver kept parts state view effect has change is after e =
    let has_change : IsEffect (state_of caps in_use driver kept) (effects.Change change) = subst (λ (s : DeviceState). IsEffect s (effects.Change change)) (sym view) (subst (IsEffect state) is has) in
    subst (AreParts caps in_use driver) (sym e) (record {
      limits = parts.limits;
      valid = subst (λ (l : Limits). let o : FlowObjects = step l kept.objects change in IsValid (state_of caps in_use driver (record kept { objects = o }))) (sym parts.limits) (valid_with_effect (state_of caps in_use driver kept) parts.valid (effects.Change change) has_change);
    })
