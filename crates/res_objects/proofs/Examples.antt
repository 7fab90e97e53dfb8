-- Worked examples of the definitions that the contracts cite.
use Rattle.std.proofs.Common.{◌≡◌, ℕ, [], ◌∷◌, Some, None, Ok, Err, refl}
use Rattle.res_objects.specs.declared.error.ObjErr.TheVariants.{Exists, Full}
use Rattle.res_objects.specs.Answers.{create_answer}
use Rattle.res_objects.specs.BoundedMap.{BoundedMap, object_of, with_object, without_object}
use Rattle.res_objects.specs.Linked.{entries_of, object_in}

-- room for two, with nothing in it
abbrev empty : BoundedMap ℕ
empty = record { entries = []; room = 2 }

-- after a create of 7 and one of 3
abbrev both : BoundedMap ℕ
both = with_object (with_object empty 7 70) 3 30

in_order : both.entries ≡ (3, 30) ∷ (7, 70) ∷ []
in_order = refl

found : object_of both 7 ≡ Some 70
found = refl

not_found : object_of both 5 ≡ None
not_found = refl

replaced : (with_object both 7 71).entries ≡ (3, 30) ∷ (7, 71) ∷ []
replaced = refl

removed : (without_object both 3).entries ≡ (7, 70) ∷ []
removed = refl

-- a held id comes before a full map
held_first : create_answer both 7 ≡ Err Exists
held_first = refl

then_full : create_answer both 5 ≡ Err Full
then_full = refl

else_ok : create_answer empty 5 ≡ Ok tt
else_ok = refl

-- 3 lies in the second slot and 7 in the first
by_slots : entries_of (object_in (Some 70 ∷ Some 30 ∷ [])) ((3, 1) ∷ (7, 0) ∷ []) ≡ both.entries
by_slots = refl
