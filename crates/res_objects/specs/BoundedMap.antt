-- A finite map of bounded size, as contracts see an `ObjMap`: its entries by rising id, and its room. This project's
-- own.
use Rattle.std.specs.Prelude.{ℕ, ◌≤◌, Option, List, length, refl}
use Rattle.std.specs.Borrow.{Bor}
use Rattle.std.specs.BTreeMap.{insert_entry, is_at}
use Rattle.std.specs.Coded.{Coded, code_by, coded_list, coded×, coded_ℕ}
use Rattle.std.specs.List.Sorted.{IsStrictlySortedBy}
use Rattle.std.specs.Map.{keys_of, lookup, remove_entry}
use Rattle.std.specs.Ordering.{nat_cmp}

-- the entries, each an id and its object, and how many entries there may be
pub record BoundedMap (T : Type 0) : Type 0 where
  pub entries : List (ℕ × T)
  pub room : ℕ

-- a bounded map is stored as the pair of its fields
abbrev pub bounded_map_code : {T : Type 0} → Coded T → Coded (BoundedMap T)
bounded_map_code {T} code =
    code_by (List (ℕ × T) × ℕ) (coded× (coded_list (coded× coded_ℕ code)) coded_ℕ)
    (λ m. (m.entries, m.room)) (λ p. record {
      entries =
          p.0;
      room = p.1;
    }) (λ _. refl)

module _ {T : Type 0} where
  -- the object that is held under the id
  abbrev pub object_of : BoundedMap T → ℕ → Option T
  object_of map id = lookup (is_at (nat_cmp id)) map.entries

  -- the map with the object under the id, in place of the one that stood there or as one more entry
  abbrev pub with_object : BoundedMap T → ℕ → T → BoundedMap T
  with_object map id object = record map { entries = insert_entry nat_cmp map.entries id object }

  -- the map without the id and its object
  abbrev pub without_object : BoundedMap T → ℕ → BoundedMap T
  without_object map id = record map { entries = remove_entry (is_at (nat_cmp id)) map.entries }

  -- the entry that an id and a reference to its object stand for
  abbrev pub deref_object : ℕ × Bor T → ℕ × T
  deref_object entry = (entry.0, entry.1.now)

  -- what holds of every value: the ids rise strictly, so that none comes twice, and the entries fit the room
  pub record IsBounded (map : BoundedMap T) : Type 0 where
    pub ordered : IsStrictlySortedBy nat_cmp (keys_of map.entries)
    pub fits : length map.entries ≤ map.room
