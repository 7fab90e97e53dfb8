-- What a door over the ruled reader keeps. This project's own.
use Rattle.std.specs.Prelude.{◌≡◌, Option, Some}
use Rattle.ff_headers.specs.declared.limits.Limits.{Limits}
use Rattle.snapshots.specs.Lists.{Identity}
use Rattle.snapshots.specs.declared.copied.Copied.{Copied}

-- a seat knows the tables of this identity and these limits
pub record KnowsTables (identity : Identity) (limits : Limits) (seat : Option Copied) : Type 0 where
  pub copied : Copied
  pub is : seat ≡ Some copied
  pub same_identity : copied.trail.identity ≡ identity
  pub same_limits : copied.tables.limits ≡ limits
