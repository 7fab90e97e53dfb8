-- How the parts of a device make its state. This project's own.
use Rattle.std.specs.Prelude.{◌≡◌, ℕ}
use Rattle.cap_table.specs.Caps.{CapsParts, DriverParts}
use Rattle.cap_table.specs.States.{DeviceState, IsValid}
use Rattle.ff_store.specs.LimitedObjects.{LimitedObjects}

abbrev pub state_of : CapsParts → ℕ → DriverParts → LimitedObjects → DeviceState
state_of caps in_use driver kept = record { caps = caps; in_use = in_use; driver = driver; objects = kept.objects }

-- there is room for objects within the device's limits, and the state is valid
pub record AreParts (caps : CapsParts) (in_use : ℕ) (driver : DriverParts) (kept : LimitedObjects) : Type 0 where
  pub limits : kept.limits ≡ caps.limits
  pub valid : IsValid (state_of caps in_use driver kept)
