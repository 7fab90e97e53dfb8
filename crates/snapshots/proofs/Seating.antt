-- The steps of readers and of the writer keep the rule of their seats.
use Rattle.std.proofs.Common.{◌≡◌, ◌≢◌, ℕ, List, [], ◌∷◌, ◌++◌, set, Option, Some, None, refl, ap, subst, ◌∙◌, ⊎_elim}
use mathlib.Core.Option.{some}
use lib.ListN.{get_elem?}
use Rattle.crossbeam_utils.specs.Register.{Admits, Turns, TurnsAt, Forks, Merges}
use Rattle.atomic_table.proofs.Lists.{at_set, at_snoc}
use Rattle.snapshots.specs.Seats.{copy_of, IsSame, IsShared, Shows, Enters}
use Rattle.snapshots.specs.declared.copied.Copied.{Copied}

-- what a seat knows is of the tables x
Fits : Copied → Option Copied → Type 0
Fits x v = (c : Copied) → v ≡ Some c → IsSame c x

same_self : (x : Copied) → IsSame x x
same_self x = record { identity = refl; limits = refl }

same_on : (a b c : Copied) → IsSame a b → IsSame b c → IsSame a c
same_on a b c p q = record { identity = p.identity ∙ q.identity; limits = p.limits ∙ q.limits }

fits_at : (x : Copied) (views : List (Option Copied)) (seat : ℕ) (v : Option Copied) → IsShared x views
    → get_elem? views seat ≡ some v → Fits x v
unfolding Fits
fits_at x views seat v h at c e = h.known seat c (at ∙ ap some e)

fits_none : (x : Copied) → Fits x None
unfolding Fits
fits_none x c e = absurd (cc (e))

known_set : (x : Copied) (views : List (Option Copied)) (seat : ℕ) (v : Option Copied) → IsShared x views → Fits x v
    → IsShared x (set views seat v)
unfolding Fits
known_set x views seat v h fits = record {
  stands = h.stands;
  known = λ j c e. ⊎_elim (λ (t : (j ≡ seat) × (v ≡ Some c)). fits c t.1)
      (λ (t : (j ≢ seat) × (get_elem? views j ≡ some (Some c))). h.known j c t.1) (at_set views seat j v (Some c) e);
}

known_more : (x : Copied) (views : List (Option Copied)) (v : Option Copied) → IsShared x views → Fits x v
    → IsShared x (views ++ v ∷ [])
unfolding Fits
known_more x views v h fits = record {
  stands = h.stands;
  known = λ j c e. ⊎_elim (h.known j c) (λ (same : v ≡ Some c). fits c same) (at_snoc views v (Some c) j e);
}

-- a new seat knows nothing
pub admits : Admits IsShared None
admits x views h = known_more x views None h (fits_none x)

-- a reader enters
pub enters : (seat : ℕ) (v : Option Copied) → Turns IsShared seat v (λ x. x) Enters
enters seat v x views h at = (
  v,
  known_set x views seat v h (fits_at x views seat v h at),
  record { stands = h.stands; known = λ c e. h.known seat c (at ∙ ap some e); kept = refl },
)

-- the writer shows a copy of the same tables that stands for its list
pub shows : (seat : ℕ) (v : Option Copied) (x y : Copied) → y ≡ copy_of y.tables.limits y.trail → IsSame x y
    → TurnsAt IsShared seat v x y Shows
shows seat v x y stands same views h at = (
  Some y,
  record {
    stands = stands;
    known = λ j c e. ⊎_elim (λ (t : (j ≡ seat) × (Some y ≡ Some c)). subst (λ d. IsSame d y) (cc (t.1)) (same_self y))
        (λ (t : (j ≢ seat) × (get_elem? views j ≡ some (Some c))). same_on c x y (h.known j c t.1) same)
        (at_set views seat j (Some y) (Some c) e);
  },
  refl,
)

-- a note knows what the writer's seat knows
pub forks : (seat : ℕ) (v : Option Copied) → Forks IsShared seat v v v
forks seat v x views h at =
    let fits = fits_at x views seat v h at in
    known_more x (set views seat v) v (known_set x views seat v h fits) fits

-- who learns a note knows what it knew
pub merges : (seat : ℕ) (v : Option Copied) (other : ℕ) (w : Option Copied) → Merges IsShared seat v other w w None
merges seat v other w x views h at apart there =
    let fits : Fits x w = ⊎_elim (λ (t : (other ≡ seat) × (w ≡ w)). absurd (apart t.0))
    (λ (t : (other ≢ seat) × (get_elem? views other ≡ some w)). fits_at x views other w h t.1)
    (at_set views seat other w w there) in
    known_set x (set views seat w) other None (known_set x views seat w h fits) (fits_none x)
