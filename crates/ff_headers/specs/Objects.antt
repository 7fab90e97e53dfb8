-- The objects of the flow filters (Virtio 1.4 draft, resource objects): groups, classifiers and rules by id, and when
-- they are well formed. That no two groups share a priority is this project's own.
use Rattle.std.specs.Prelude.{◌≡◌, ℕ, ◌≤◌, List, [], length, Option, Some, IsSome, IsSomeAnd}
use Rattle.std.specs.Map.{lookup, keys_of}
use Rattle.std.specs.Ordering.{nat_cmp}
use Rattle.std.specs.BTreeMap.{is_at}
use Rattle.std.specs.List.Sorted.{IsStrictlySortedBy}
use Rattle.ff_headers.specs.SelectorParts.{SelectorParts}
use Rattle.ff_headers.specs.RuleParts.{RuleParts}
use Rattle.ff_headers.specs.Shapes.{HasShape}
use Rattle.ff_headers.specs.Matching.{key_size}
use Rattle.ff_headers.specs.declared.limits.Limits.{Limits}

-- three finite maps, as their entries by rising id: a group has a priority, a classifier its selectors
pub record FlowObjects : Type 0 where
  pub groups : List (ℕ × ℕ)
  pub classifiers : List (ℕ × List SelectorParts)
  pub rules : List (ℕ × RuleParts)

-- no object at all
abbrev pub no_objects : FlowObjects
no_objects = record { groups = []; classifiers = []; rules = [] }

-- the object that is held under an id
abbrev pub object_under : {X : Type 0} → List (ℕ × X) → ℕ → Option X
object_under entries id = lookup (is_at (nat_cmp id)) entries

-- the ids rise strictly
abbrev pub IsById : {X : Type 0} → List (ℕ × X) → Type 0
IsById entries = IsStrictlySortedBy nat_cmp (keys_of entries)

-- the rule's group and classifier are held, and its key has the classifier's key size
pub record IsBacked (objects : FlowObjects) (rule : RuleParts) : Type 0 where
  pub group_held : IsSome (object_under objects.groups rule.group)
  pub key_fits :
      IsSomeAnd (object_under objects.classifiers rule.classifier) (λ selectors. length rule.key ≡ key_size selectors)

-- no map has more objects than its limit
pub record IsWithin (limits : Limits) (objects : FlowObjects) : Type 0 where
  pub groups_fit : length objects.groups ≤ limits.groups
  pub classifiers_fit : length objects.classifiers ≤ limits.classifiers
  pub rules_fit : length objects.rules ≤ limits.rules

-- each map is by id
pub record AreById (objects : FlowObjects) : Type 0 where
  pub groups_rise : IsById objects.groups
  pub classifiers_rise : IsById objects.classifiers
  pub rules_rise : IsById objects.rules

-- well formed for the limits: each rule is backed, each classifier has good shape, and no two groups have one priority
pub record IsWellFormed (limits : Limits) (objects : FlowObjects) : Type 0 where
  pub by_id : AreById objects
  pub within : IsWithin limits objects
  pub backed : (id : ℕ) (rule : RuleParts) → object_under objects.rules id ≡ Some rule → IsBacked objects rule
  pub shaped : (id : ℕ) (selectors : List SelectorParts)
      → object_under objects.classifiers id ≡ Some selectors → HasShape selectors
  pub one_priority : (a b priority : ℕ)
      → object_under objects.groups a ≡ Some priority → object_under objects.groups b ≡ Some priority → a ≡ b
