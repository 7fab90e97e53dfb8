-- Objects that are kept with how many rules name them. This project's own.
use Rattle.std.specs.Prelude.{◌≡◌, ℕ, ◌+◌, Bool, if◌then◌else◌, List, map, Option}
use Rattle.std.specs.Option.{option_map_or}
use Rattle.ff_headers.specs.Objects.{object_under}
use Rattle.res_objects.specs.BoundedMap.{BoundedMap}
use Rattle.ff_store.specs.declared.counted.Counted.{Counted}

-- how many objects pass the test, where there is one or none
abbrev pub one_if : {T : Type 0} → (T → Bool) → Option T → ℕ
one_if test object = option_map_or (λ x. if test x then 1 else 0) object 0

module _ {T : Type 0} where
  -- the objects alone, by rising id
  abbrev pub objects_of : List (ℕ × Counted T) → List (ℕ × T)
  objects_of entries = map (λ e. (e.0, e.1.object)) entries

  -- the count that is kept with an id, 0 where the id isn't held
  abbrev pub count_of : List (ℕ × Counted T) → ℕ → ℕ
  count_of entries id = option_map_or (λ counted. counted.rules) (object_under entries id) 0

  -- the same objects, where each id has so much less as its count
  pub record IsUncounted (before after : BoundedMap (Counted T)) (less : ℕ → ℕ) : Type 0 where
    pub objects : objects_of after.entries ≡ objects_of before.entries
    pub counts : (id : ℕ) → count_of after.entries id + less id ≡ count_of before.entries id
    pub room : after.room ≡ before.room
