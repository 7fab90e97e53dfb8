-- When a create answers what.
use Rattle.std.proofs.Common.{◌≡◌, ◌≢◌, ◌↔◌, ℕ, ◌==◌, true, false, if◌then◌else◌, length, Option, Some, None, IsSome, IsNone, is_some, Result, Ok, Err, refl, inl, inr, arith}
use Rattle.std.specs.Bool.{⊤}
use Rattle.std.proofs.lemmas.Bool.{cases_eq}
use Rattle.std.proofs.lemmas.Bool.Decides.{nat_tests}
use Rattle.res_objects.specs.declared.error.ObjErr.{ObjErr}
use Rattle.res_objects.specs.declared.error.ObjErr.TheVariants.{Exists, Full}
use Rattle.res_objects.specs.Answers.{create_answer}
use Rattle.res_objects.specs.BoundedMap.{BoundedMap, object_of}

module _ {T : Type 0} (map : BoundedMap T) (id : ℕ) where
  pub answer_exists : is_some (object_of map id) ≡ true → create_answer map id ≡ Err Exists
  answer_exists held = rw held refl

  pub answer_full : is_some (object_of map id) ≡ false → length map.entries ≡ map.room → create_answer map id ≡ Err Full
  answer_full absent full = let test : (length map.entries == map.room) ≡ true = grind (arith, nat_tests) in rw (absent, test) refl

  pub answer_ok : is_some (object_of map id) ≡ false → length map.entries ≢ map.room → create_answer map id ≡ Ok tt
  answer_ok absent spare = let test : (length map.entries == map.room) ≡ false = grind (arith, nat_tests) in rw (absent, test) refl

-- the answer, by the object that is held, the length and the room
abbrev answer_of : {T : Type 0} → Option T → ℕ → ℕ → Result ⊤ ObjErr
answer_of o n room = if is_some o then Err Exists else (if n == room then Err Full else Ok tt)

module _ {T : Type 0} where
  -- `Exists` comes where the id is held
  exists_by : (o : Option T) (n room : ℕ) (r : Result ⊤ ObjErr) → r ≡ answer_of o n room → (r ≡ Err Exists) ↔ IsSome o
  exists_by (Some x) n room r is = (λ _. refl, λ _. is)
  exists_by None n room r is = elim (cases_eq n room) [
    | inl full ↦ let test : (n == room) ≡ true = grind (arith, nat_tests) in let answer = rw test at is in (λ e. absurd (cc), λ held. absurd (cc))
    | inr spare ↦ let test : (n == room) ≡ false = grind (arith, nat_tests) in let answer = rw test at is in (λ e. absurd (cc), λ held. absurd (cc))
  ]

  -- `Full` comes where it isn't, and the map has as many entries as its room
  full_by : (o : Option T) (n room : ℕ) (r : Result ⊤ ObjErr) → r ≡ answer_of o n room → (r ≡ Err Full) ↔ (IsNone o × (n ≡ room))
  full_by (Some x) n room r is = (λ e. absurd (cc), λ both. absurd (let none = both.0 in cc))
  full_by None n room r is = elim (cases_eq n room) [
    | inl full ↦ let test : (n == room) ≡ true = grind (arith, nat_tests) in let answer = rw test at is in (λ e. (refl, full), λ _. answer)
    | inr spare ↦ let test : (n == room) ≡ false = grind (arith, nat_tests) in let answer = rw test at is in (λ e. absurd (cc), λ both. absurd (spare both.1))
  ]

  pub exists_law : (map : BoundedMap T) (id : ℕ) (r : Result ⊤ ObjErr) → r ≡ create_answer map id → (r ≡ Err Exists) ↔ IsSome (object_of map id)
  exists_law map id r is = exists_by (object_of map id) (length map.entries) map.room r is

  pub full_law : (map : BoundedMap T) (id : ℕ) (r : Result ⊤ ObjErr) → r ≡ create_answer map id → (r ≡ Err Full) ↔ (IsNone (object_of map id) × (length map.entries ≡ map.room))
  full_law map id r is = full_by (object_of map id) (length map.entries) map.room r is
