-- What the calls on the index and the slots do to the map that they make, and to its invariant.
use Rattle.std.proofs.Common.{◌≡◌, ℕ, zero, suc, ◌+◌, ◌<◌, ◌≤◌, false, List, [], ◌∷◌, length, slice_get, Option, Some, None, IsSome, is_some, refl, ap, ◌∙◌, arith}
use Rattle.std.specs.BTreeMap.{insert_entry, is_at}
use Rattle.std.specs.List.Sorted.{IsStrictlySortedBy}
use Rattle.std.specs.Map.{keys_of, lookup, remove_entry}
use Rattle.std.specs.Option.{option_and_then}
use Rattle.std.specs.Ordering.{nat_cmp}
use Rattle.std.proofs.lemmas.Option.{slice_get_within}
use Rattle.res_objects.specs.BoundedMap.{IsBounded, object_of, with_object, without_object}
use Rattle.res_objects.specs.Linked.{SlotIndex, SlotTable, object_in, held_count, ChangesSlot, IsObjects, map_of}
use Rattle.res_objects.proofs.Linked.{length-entries_of, keys-entries_of, lookup-entries_of, slice_get-entries_of, held_by_lookup, held_at, not_named, entries_of-insert, entries_of-replace, entries_of-remove, IsLinked-insert, IsLinked-replace, IsLinked-remove}
use Rattle.res_objects.proofs.Places.{length-insert_entry, length-remove_entry}

-- a place with no entry is past the end
past_from_none : (xs : List (ℕ × ℕ)) (i : ℕ) → slice_get xs i ≡ None → length xs ≤ i
past_from_none [] i h = omega arith
past_from_none (x ∷ xs) zero h = absurd (cc)
past_from_none (x ∷ xs) (suc i) h = omega (arith, past_from_none xs i h)

-- an option that isn't `Some`
pub none_from_test : {X : Type 0} (o : Option X) → is_some o ≡ false → o ≡ None
none_from_test None h = refl
none_from_test (Some x) h = absurd (cc)

is_some-and_then : {X Y : Type 0} (f : X → Option Y) (o : Option X) → ((x : X) → o ≡ Some x → IsSome (f x)) → is_some (option_and_then f o) ≡ is_some o
is_some-and_then f None held = refl
is_some-and_then f (Some x) held = held x refl

module _ {T : Type 0} (index : SlotIndex) (table : SlotTable T) (room : ℕ) (objects : IsObjects index table room) where
  -- what callers may know of every map
  pub bounded : IsBounded (map_of index table room)
  bounded = record {
    ordered = rw (keys-entries_of (object_in table.cells) index.slots objects.linked) objects.ordered;
    fits = rw (length-entries_of (object_in table.cells) index.slots objects.linked) objects.fits;
  }

  -- the map has as many entries as the index
  pub length-map_of : length (map_of index table room).entries ≡ length index.slots
  length-map_of = length-entries_of (object_in table.cells) index.slots objects.linked

  -- an id's object is the one in its slot
  pub object_of-map_of : (id : ℕ) → object_of (map_of index table room) id ≡ option_and_then (object_in table.cells) (lookup (is_at (nat_cmp id)) index.slots)
  object_of-map_of id = lookup-entries_of (object_in table.cells) (is_at (nat_cmp id)) index.slots objects.linked

  pub object_found : (id slot : ℕ) (object : T) → lookup (is_at (nat_cmp id)) index.slots ≡ Some slot → object_in table.cells slot ≡ Some object → object_of (map_of index table room) id ≡ Some object
  object_found id slot object found holds = object_of-map_of id ∙ rw found holds

  pub object_missing : (id : ℕ) → lookup (is_at (nat_cmp id)) index.slots ≡ None → object_of (map_of index table room) id ≡ None
  object_missing id absent = object_of-map_of id ∙ rw absent refl

  pub held_slot : (id slot : ℕ) → lookup (is_at (nat_cmp id)) index.slots ≡ Some slot → IsSome (object_in table.cells slot)
  held_slot id slot found = held_by_lookup (object_in table.cells) (is_at (nat_cmp id)) index.slots slot objects.linked found

  -- an id is held exactly where the index has it
  pub is_some-object_of : (id : ℕ) → is_some (object_of (map_of index table room) id) ≡ is_some (lookup (is_at (nat_cmp id)) index.slots)
  is_some-object_of id = ap is_some (object_of-map_of id) ∙ is_some-and_then (object_in table.cells) (lookup (is_at (nat_cmp id)) index.slots) (held_slot id)

  -- the entry at a place
  pub entry_missing : (place : ℕ) → slice_get index.slots place ≡ None → slice_get (map_of index table room).entries place ≡ None
  entry_missing place past = slice_get-entries_of (object_in table.cells) index.slots place objects.linked ∙ rw past refl

  pub entry_found : (place : ℕ) (e : ℕ × ℕ) (object : T) → slice_get index.slots place ≡ Some e → object_in table.cells e.1 ≡ Some object → slice_get (map_of index table room).entries place ≡ Some (e.0, object)
  entry_found place e object found holds = slice_get-entries_of (object_in table.cells) index.slots place objects.linked ∙ rw (found, holds) refl

  pub place_within : (place : ℕ) (e : ℕ × ℕ) → slice_get index.slots place ≡ Some e → place < length (map_of index table room).entries
  place_within place e found = rw length-map_of (slice_get_within index.slots place e found)

  pub place_past : (place : ℕ) → slice_get index.slots place ≡ None → length (map_of index table room).entries ≤ place
  place_past place past = rw length-map_of (past_from_none index.slots place past)

  pub held_place : (place : ℕ) (e : ℕ × ℕ) → slice_get index.slots place ≡ Some e → IsSome (object_in table.cells e.1)
  held_place place e found = held_at (object_in table.cells) index.slots place e objects.linked found

  module _ (id slot : ℕ) (object : T) (index' : SlotIndex) (table' : SlotTable T) where
    module _
        (absent : lookup (is_at (nat_cmp id)) index.slots ≡ None)
        (spare : length index.slots < room)
        (free : object_in table.cells slot ≡ None)
        (changes : ChangesSlot table.cells table'.cells slot (Some object))
        (inserts : index'.slots ≡ insert_entry nat_cmp index.slots id slot)
      where
        pub created : map_of index' table' room ≡ with_object (map_of index table room) id object
        created = rw inserts (ap (λ entries. record { entries = entries; room = room })
            (entries_of-insert (object_in table.cells) (object_in table'.cells) slot changes.others index.slots id object changes.here (not_named (object_in table.cells) slot index.slots free objects.linked) objects.linked))

        pub IsObjects-create : IsStrictlySortedBy nat_cmp (keys_of index'.slots) → held_count table'.cells ≡ held_count table.cells + 1 → index'.room ≡ index.room → table'.room ≡ table.room → IsObjects index' table' room
        IsObjects-create ordered counted index_room table_room =
            let longer : length index'.slots ≡ length index.slots + 1 = rw inserts (length-insert_entry index.slots id slot absent) in
            let here : IsSome (object_in table'.cells slot) = rw changes.here refl in
            record {
              ordered = ordered;
              linked = rw inserts (IsLinked-insert (object_in table.cells) (object_in table'.cells) slot changes.others index.slots id here (not_named (object_in table.cells) slot index.slots free objects.linked) objects.linked);
              counted = omega (arith, objects.counted);
              fits = omega arith;
              index_room = index_room ∙ objects.index_room;
              table_room = table_room ∙ objects.table_room;
            }

    module _
        (found : lookup (is_at (nat_cmp id)) index.slots ≡ Some slot)
        (changes : ChangesSlot table.cells table'.cells slot (Some object))
      where
        pub modified : map_of index table' room ≡ with_object (map_of index table room) id object
        modified = ap (λ entries. record { entries = entries; room = room })
            (entries_of-replace (object_in table.cells) (object_in table'.cells) slot changes.others index.slots id object changes.here found objects.ordered objects.linked)

        pub IsObjects-modify : held_count table'.cells ≡ held_count table.cells → table'.room ≡ table.room → IsObjects index table' room
        IsObjects-modify counted table_room =
            let here : IsSome (object_in table'.cells slot) = rw changes.here refl in
            record {
              ordered = objects.ordered;
              linked = IsLinked-replace (object_in table.cells) (object_in table'.cells) slot changes.others index.slots here objects.linked;
              counted = omega (arith, objects.counted);
              fits = objects.fits;
              index_room = objects.index_room;
              table_room = table_room ∙ objects.table_room;
            }

    module _
        (found : lookup (is_at (nat_cmp id)) index.slots ≡ Some slot)
        (changes : ChangesSlot table.cells table'.cells slot None)
        (removes : index'.slots ≡ remove_entry (is_at (nat_cmp id)) index.slots)
      where
        pub destroyed : map_of index' table' room ≡ without_object (map_of index table room) id
        destroyed = rw removes (ap (λ entries. record { entries = entries; room = room })
            (entries_of-remove (object_in table.cells) (object_in table'.cells) slot changes.others index.slots id found objects.linked))

        pub IsObjects-destroy : IsStrictlySortedBy nat_cmp (keys_of index'.slots) → held_count table'.cells + 1 ≡ held_count table.cells → index'.room ≡ index.room → table'.room ≡ table.room → IsObjects index' table' room
        IsObjects-destroy ordered counted index_room table_room =
            let shorter : length index'.slots + 1 ≡ length index.slots = rw removes (length-remove_entry index.slots id slot found) in
            record {
              ordered = ordered;
              linked = rw removes (IsLinked-remove (object_in table.cells) (object_in table'.cells) slot changes.others index.slots id found objects.linked);
              counted = omega (arith, objects.counted);
              fits = omega (arith, objects.fits);
              index_room = index_room ∙ objects.index_room;
              table_room = table_room ∙ objects.table_room;
            }
