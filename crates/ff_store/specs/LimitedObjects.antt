-- The objects of a device with the limits for which there is room, as contracts see them. This project's own.
use Rattle.ff_headers.specs.declared.limits.Limits.{Limits}
use Rattle.ff_headers.specs.declared.change.Change.{Change}
use Rattle.ff_headers.specs.Objects.{FlowObjects, no_objects}
use Rattle.ff_headers.specs.Changes.{step}

-- objects, and the limits within which there is room for them
pub record LimitedObjects : Type 0 where
  pub limits : Limits
  pub objects : FlowObjects

-- room for objects within the limits, and none yet
abbrev pub none_within : Limits → LimitedObjects
none_within limits = record { limits = limits; objects = no_objects }

-- the objects after a change
abbrev pub with_change : LimitedObjects → Change → LimitedObjects
with_change before change = record before { objects = step before.limits before.objects change }
