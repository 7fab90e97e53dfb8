-- What the calls of `ObjMap` answer, each refusal exactly where it is due. This project's own.
use Rattle.std.specs.Prelude.{ℕ, ◌==◌, if◌then◌else◌, Result, Ok, Err, is_some, length, ⊤}
use Rattle.res_objects.specs.declared.error.ObjErr.{ObjErr}
use Rattle.res_objects.specs.declared.error.ObjErr.TheVariants.{Exists, Full}
use Rattle.res_objects.specs.BoundedMap.{BoundedMap, object_of}

module _ {T : Type 0} where
  -- of a create: the id is held, or else no room is left, or else the object is held from now on
  abbrev pub create_answer : BoundedMap T → ℕ → Result ⊤ ObjErr
  create_answer map id =
      if is_some (object_of map id) then Err Exists else (if length map.entries == map.room then Err Full else Ok tt)
