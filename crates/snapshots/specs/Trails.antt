-- What a trail keeps. This project's own.
use Rattle.std.specs.Prelude.{◌≡◌, ℕ, length}
use Rattle.ff_headers.specs.declared.change.Change.{Change}
use Rattle.std.specs.Prelude.{List}
use Rattle.snapshots.specs.Lists.{ClosesLast}

-- the number is that of the changes, and none follows the one that closes the list
pub record IsTrail (len : ℕ) (list : List Change) : Type 0 where
  pub counted : len ≡ length list
  pub closes_last : ClosesLast list
