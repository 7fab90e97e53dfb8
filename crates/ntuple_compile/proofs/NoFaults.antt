-- What it says that a table isn't refused: the device has the selectors, and room for groups, classifiers and rules.
use Rattle.std.proofs.Common.{◌≡◌, ℕ, zero, suc, ◌+◌, ◌*◌, ◌<◌, ◌≤◌, Bool, true, false, not, cond, List, [], ◌∷◌, map, length, Option, Some, None, refl, arith, ⊎_elim}
use Rattle.std.specs.Prelude.{min, nat_lt, find, option_map}
use Rattle.std.specs.List.{AllByRecursion, list_all, enumerate_from}
use Rattle.std.specs.Int.{div_ceil}
use Rattle.std.proofs.Math.Nat.{mul-le-mul_right, zero-div, zero-mod}
use Rattle.std.proofs.lemmas.Bool.{and_from, cases_lt, ltb-false}
use Rattle.std.proofs.lemmas.Grind.{div_ceil_times}
use Rattle.cap_table.specs.Caps.{CapsParts, are_supported, is_supported}
use Rattle.ntuple_text.specs.declared.spec.Spec.{Spec}
use Rattle.ntuple_compile.specs.Compiled.{above, compile_fault, first_fault, rules_per_group, shapes_of, spec_fault, specs_fault}
use Rattle.ntuple_compile.specs.Selected.{selectors_of}
use Rattle.ntuple_compile.specs.declared.error.CompileErr.{CompileErr}
use Rattle.ntuple_compile.specs.declared.error.CompileErr.TheVariants.{Unsupported, Rules, Classifiers, Levels, PerGroup}

-- ---- refusals that aren't there

no_first : (fault : Option CompileErr) (faults : List (Option CompileErr)) → first_fault (fault ∷ faults) ≡ None → (fault ≡ None) × (first_fault faults ≡ None)
no_first None faults none = (refl, none)
no_first (Some fault) faults none = absurd cc

not_above : (fault : ℕ → CompileErr) (number limit : ℕ) → above fault number limit ≡ None → number ≤ limit
not_above fault number limit none = by_test (nat_lt limit number) refl none where
  by_test : (b : Bool) → nat_lt limit number ≡ b → cond b (Some (fault number)) None ≡ None → number ≤ limit
  by_test true test is = absurd cc
  by_test false test is = ltb-false limit number test

none_found : {X : Type 0} (p : X → Bool) (xs : List X) → find (λ x. not (p x)) xs ≡ None → list_all p xs ≡ true
none_found p [] none = refl
none_found p (x ∷ xs) none = by_test (p x) refl none (none_found p xs) where
  by_test : (b : Bool) → p x ≡ b → cond (not b) (Some x) (find (λ y. not (p y)) xs) ≡ None → (find (λ y. not (p y)) xs ≡ None → list_all p xs ≡ true) → list_all p (x ∷ xs) ≡ true
  by_test true test is rest = and_from _ _ test (rest is)
  by_test false test is rest = absurd cc

none_mapped : {X Y : Type 0} (f : X → Y) (o : Option X) → option_map f o ≡ None → o ≡ None
none_mapped f None none = refl
none_mapped f (Some x) none = absurd cc

-- ---- what a device has for specs

-- a device's capability has the selectors of a spec
abbrev pub IsSupported : CapsParts → Spec → Type 0
IsSupported caps spec = are_supported caps.limits.selectors caps.selectors (selectors_of spec) ≡ true

supported : (caps : CapsParts) (spec : Spec) → spec_fault caps spec ≡ None → IsSupported caps spec
supported caps spec none =
    none_found (λ p. is_supported caps.limits.selectors caps.selectors p.0 p.1) (enumerate_from 0 (selectors_of spec)) (none_mapped (λ p. p.1.kind) _ (none_mapped (λ kind. Unsupported spec.loc kind) _ none))

each_supported : (caps : CapsParts) (specs : List Spec) → specs_fault caps specs ≡ None → AllByRecursion (IsSupported caps) specs
each_supported caps [] none = tt
each_supported caps (spec ∷ specs) none =
    let parts = no_first (spec_fault caps spec) (map (spec_fault caps) specs) none in
    (supported caps spec parts.0, each_supported caps specs parts.1)

-- the device has the selectors, and room for the rules, the classifiers and the groups
pub record HasRoom (caps : CapsParts) (specs : List Spec) : Type 0 where
  pub supported : AllByRecursion (IsSupported caps) specs
  pub rules : length specs ≤ caps.limits.rules
  pub classifiers : length (shapes_of specs) ≤ caps.limits.classifiers
  pub levels : length specs ≤ caps.limits.groups * (caps.limits.last_priority + 1)
  pub per_group : length specs ≤ caps.limits.groups * caps.limits.per_group

pub room_if_no_fault : (caps : CapsParts) (specs : List Spec) → compile_fault caps specs ≡ None → HasRoom caps specs
unfolding compile_fault
room_if_no_fault caps specs none =
    let first = no_first _ _ none in
    let rules = no_first _ _ first.1 in
    let classifiers = no_first _ _ rules.1 in
    let levels = no_first _ _ classifiers.1 in
    let per_group = no_first _ _ levels.1 in
    record {
      supported = each_supported caps specs first.0;
      rules = not_above Rules _ _ rules.0;
      classifiers = not_above Classifiers _ _ classifiers.0;
      levels = not_above Levels _ _ levels.0;
      per_group = not_above PerGroup _ _ per_group.0;
    }

-- ---- groups

-- a product with something in it has a second factor
second_factor : (n a b : ℕ) → 0 < n → n ≤ a * b → 0 < b
second_factor n a zero some within = absurd (omega (arith, some, within))
second_factor n a (suc b) some within = omega arith

-- there is room in a group where there is a spec
pub some_in_group : (caps : CapsParts) (specs : List Spec) → HasRoom caps specs → 0 < length specs → 0 < rules_per_group caps.limits
some_in_group caps specs room some =
    let each = second_factor (length specs) caps.limits.groups caps.limits.per_group some room.per_group in
    omega (arith, each)

-- within both products, and so within the product with the lesser factor
within_lesser : (n g a b : ℕ) → n ≤ g * a → n ≤ g * b → n ≤ g * min a b
within_lesser n g a b low high = ⊎_elim (λ (less : a < b). let is : min a b ≡ a = omega (arith, less) in rw is low) (λ (more : b ≤ a). let is : min a b ≡ b = omega (arith, more) in rw is high) (cases_lt a b)

few_parts : (n g s : ℕ) → 0 < s → n ≤ g * s → div_ceil n s ≤ g
few_parts n g s some within = ⊎_elim (λ (over : g < div_ceil n s). absurd (too_many over)) (λ few. few) (cases_lt g (div_ceil n s)) where
  too_many : g < div_ceil n s → ⊥
  too_many over =
      let times = (div_ceil_times n s some).1 in
      let rises : (g + 1) * s ≤ div_ceil n s * s = mul-le-mul_right s (omega (arith, over)) in
      let one_more : (g + 1) * s ≡ g * s + s = omega arith in
      omega (arith, times, rises, one_more, within)

no_parts : (s : ℕ) → div_ceil 0 s ≡ 0
no_parts s = let whole = zero-div s in let rest = zero-mod s in omega (arith, whole, rest)

-- the groups are within their limit
pub groups_within : (caps : CapsParts) (specs : List Spec) → HasRoom caps specs → div_ceil (length specs) (rules_per_group caps.limits) ≤ caps.limits.groups
groups_within caps [] room = omega (arith, no_parts (rules_per_group caps.limits))
groups_within caps (spec ∷ specs) room =
    let lesser = within_lesser (length (spec ∷ specs)) caps.limits.groups (caps.limits.last_priority + 1) caps.limits.per_group room.levels room.per_group in
    few_parts (length (spec ∷ specs)) caps.limits.groups (rules_per_group caps.limits) (some_in_group caps (spec ∷ specs) room (omega arith)) lesser
