-- How an index of slots and the slots' contents make the entries of a map. This project's own.
use Rattle.std.specs.Prelude.{◌≡◌, ◌≢◌, ℕ, ◌+◌, ◌<◌, ◌≤◌, ◌^◌, min, Option, None, List, [], ◌∷◌, length, is_some, IsSome, slice_index_or, count_by, refl, ⊤}
use Rattle.std.specs.Coded.{Coded, code_by, coded_list, coded_option, coded×, coded_ℕ}
use Rattle.std.specs.List.{AllByRecursion, filter_map}
use Rattle.std.specs.List.Sorted.{IsStrictlySortedBy}
use Rattle.std.specs.Map.{keys_of}
use Rattle.std.specs.Option.{option_map}
use Rattle.std.specs.Ordering.{nat_cmp}
use Rattle.res_objects.specs.BoundedMap.{BoundedMap}

-- the ids by rising number, each with the slot of its object, and how many there may be
pub record SlotIndex : Type 0 where
  pub slots : List (ℕ × ℕ)
  pub room : ℕ

-- what stands in each slot that was ever used, and how many slots there may be
pub record SlotTable (T : Type 0) : Type 0 where
  pub cells : List (Option T)
  pub room : ℕ

-- a table is stored as the pair of its fields
abbrev pub slot_table_code : {T : Type 0} → Coded T → Coded (SlotTable T)
slot_table_code {T} code =
    code_by (List (Option T) × ℕ) (coded× (coded_list (coded_option code)) coded_ℕ)
    (λ t. (t.cells, t.room)) (λ p. record {
      cells =
          p.0;
      room = p.1;
    }) (λ _. refl)

module _ {T : Type 0} where
  -- the object in a slot; a slot that was never used has none
  abbrev pub object_in : List (Option T) → ℕ → Option T
  object_in cells slot = slice_index_or cells slot None

  -- how many slots hold an object
  abbrev pub held_count : List (Option T) → ℕ
  held_count cells = count_by is_some cells

  -- after has this content in the slot, and in each other slot what before has
  pub record ChangesSlot (before after : List (Option T)) (slot : ℕ) (content : Option T) : Type 0 where
    pub here : object_in after slot ≡ content
    pub others : (other : ℕ) → other ≢ slot → object_in after other ≡ object_in before other

  -- the entries of the map: each id of the index, with the object in its slot
  abbrev pub entries_of : (ℕ → Option T) → List (ℕ × ℕ) → List (ℕ × T)
  entries_of object_at index = filter_map (λ e. option_map (λ object. (e.0, object)) (object_at e.1)) index

  -- each slot of the index holds an object, and no slot stands there twice
  abbrev pub IsLinked : (ℕ → Option T) → List (ℕ × ℕ) → Type 0
  IsLinked object_at [] = ⊤
  IsLinked object_at (e ∷ es) = IsSome (object_at e.1) × AllByRecursion (λ d. d.1 ≢ e.1) es × IsLinked object_at es

  -- each slot of the list is a used one that holds nothing, and none stands there twice
  abbrev pub IsFreeList : List (Option T) → List ℕ → Type 0
  IsFreeList cells [] = ⊤
  IsFreeList cells (slot ∷ slots) =
      (slot < length cells) × (object_in cells slot ≡ None) × AllByRecursion (λ other. other ≢ slot) slots
      × IsFreeList cells slots

  -- the invariant of the slots: with the free list's, those that hold an object are all that were ever used, there is
  -- room for all of them in the list, and their numbers are below 2^32
  pub record HasFree (cells : List (Option T)) (free : List ℕ) (room free_room : ℕ) : Type 0 where
    pub listed : IsFreeList cells free
    pub counted : held_count cells + length free ≡ length cells
    pub fits : length cells ≤ room
    pub free_fits : room ≤ free_room
    pub numbered : room ≤ 2 ^ 32

-- the invariant of a map: the index is in order and linked to the slots, both count the same objects, and both have
-- room for as many of them as the map, or as there are ids
pub record IsObjects {T : Type 0} (index : SlotIndex) (table : SlotTable T) (room : ℕ) : Type 0 where
  pub ordered : IsStrictlySortedBy nat_cmp (keys_of index.slots)
  pub linked : IsLinked (object_in table.cells) index.slots
  pub counted : length index.slots ≡ held_count table.cells
  pub fits : length index.slots ≤ room
  pub index_room : index.room ≡ min room (2 ^ 32)
  pub table_room : table.room ≡ min room (2 ^ 32)

-- the map that an index and slots make
abbrev pub map_of : {T : Type 0} → SlotIndex → SlotTable T → ℕ → BoundedMap T
map_of index table room = record { entries = entries_of (object_in table.cells) index.slots; room = room }
