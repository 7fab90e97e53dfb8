-- The end and the workers as `open` gives them. This project's own.
use Rattle.std.specs.Prelude.{◌≡◌, ℕ, List, [], ◌∷◌, length, All}
use Rattle.ff_headers.specs.declared.limits.Limits.{Limits}
use Rattle.snapshots.specs.Lists.{ToldList}
use Rattle.snapshots.specs.Ends.{EndState}
use Rattle.snapshots.specs.Workers.{WorkerState}

-- a worker of the end's tables that has seen and was told nothing, with an empty log and no room in it
pub record IsFresh (end : EndState) (worker : WorkerState) : Type 0 where
  pub identity : worker.identity ≡ end.identity
  pub limits : worker.limits ≡ end.limits
  pub floors : worker.floors ≡ [] ∷ []
  pub log : worker.log ≡ []
  pub spare : worker.spare ≡ 0

-- an end for these limits that has published this list
abbrev pub end_of : ToldList → Limits → EndState
end_of told limits = record { identity = told.identity; limits = limits; list = told.list }

-- an end for these limits that has published nothing, and so many fresh workers
pub record IsOpened (limits : Limits) (count : ℕ) (end : EndState) (workers : List WorkerState) : Type 0 where
  pub limits_are : end.limits ≡ limits
  pub empty : end.list ≡ []
  pub as_many : length workers ≡ count
  pub fresh : All (IsFresh end) workers
