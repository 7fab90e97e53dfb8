-- A bench as contracts see it, and what it keeps between two commands. This project's own.
use Rattle.std.specs.Prelude.{◌≡◌, ℕ, List, length}
use Rattle.cap_table.specs.States.{DeviceState, IsValid}
use Rattle.cap_table.specs.declared.answer.Effect.{Effect}
use Rattle.cap_table.specs.declared.answer.Effect.TheVariants.{Change}
use Rattle.matcher.specs.Tables.{TableState, applied}
use Rattle.split_queue.specs.Agreement.{Agree}
use Rattle.split_queue.specs.DeviceEnds.{DeviceEndState}
use Rattle.split_queue.specs.DriverEnds.{DriverEndState}
use Rattle.steer.specs.BenchPlaces.{bench_bytes, bench_size, bench_place}

-- the device's state, the bytes of the guest memory, and how many commands there were so far, modulo 2^16
pub record BenchState : Type 0 where
  pub device : DeviceState
  pub memory : List ℕ
  pub commands : ℕ

-- the tables stand for the device's objects: they hold them, within the device's limits
pub record AreInStep (device : DeviceState) (tables : TableState) : Type 0 where
  pub limits : tables.limits ≡ device.caps.limits
  pub objects : tables.objects ≡ device.objects

-- the tables after an effect of the device
abbrev pub changed_by : Effect → TableState → TableState
changed_by (Change change) tables = applied tables change
changed_by _ tables = tables

-- the device is valid, and the tables are in step with it
pub record IsMachine (device : DeviceState) (tables : TableState) : Type 0 where
  pub valid : IsValid device
  pub in_step : AreInStep device tables

-- both ends of the ring and the memory between two commands: the ends lie at the bench's place and agree, as many
-- chains came back as were posted, and every descriptor is free
pub record AreReady (driver : DriverEndState) (device_end : DeviceEndState) (mem : List ℕ) : Type 0 where
  pub place : driver.place ≡ bench_place
  pub bytes : length mem ≡ bench_bytes
  pub agree : Agree driver device_end mem
  pub all_back : driver.used ≡ driver.next
  pub all_free : length driver.pool.free ≡ bench_size
