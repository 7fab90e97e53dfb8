-- What `open` gives, from its parts.
use Rattle.std.specs.Prelude.{◌≡◌, ℕ, List, [], length, All, Option, Some, IfSome}
use Rattle.std.proofs.Common.{subst, ◌∙◌, refl}
use Rattle.ff_headers.specs.declared.limits.Limits.{Limits}
use Rattle.snapshots.specs.Lists.{ToldList}
use Rattle.snapshots.specs.Ends.{EndState}
use Rattle.snapshots.specs.Workers.{WorkerState}
use Rattle.snapshots.specs.Fresh.{IsFresh, IsOpened, end_of}

pub is_opened : {A : Type 0} (items : A → List WorkerState) (limits : Limits) (count many : ℕ) (first : ToldList) (end : EndState) (seated : Option A) (list : A) → seated ≡ Some list → IfSome seated (λ l. (length (items l) ≡ many) × All (IsFresh (end_of first limits)) (items l)) → end ≡ end_of first limits → first.list ≡ [] → many ≡ count → IsOpened limits count end (items list)
is_opened items limits count many first end seated list there holds is empty same =
    let parts = subst (λ o. IfSome o (λ l. (length (items l) ≡ many) × All (IsFresh (end_of first limits)) (items l))) there holds in
    rw is record {
      limits_are = refl;
      empty = empty;
      as_many = parts.0 ∙ same;
      fresh = parts.1;
    }
