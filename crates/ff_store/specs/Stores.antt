-- What a store keeps: three maps, and with each group and classifier how many rules name it. This project's own.
use Rattle.std.specs.Prelude.{◌≡◌, ℕ, ◌<◌, ◌^◌, List}
use Rattle.ff_headers.specs.declared.limits.Limits.{Limits}
use Rattle.ff_headers.specs.SelectorParts.{SelectorParts}
use Rattle.ff_headers.specs.RuleParts.{RuleParts}
use Rattle.ff_headers.specs.Objects.{FlowObjects, IsWellFormed}
use Rattle.ff_headers.specs.Dependents.{rules_in_group, rules_with_classifier}
use Rattle.res_objects.specs.BoundedMap.{BoundedMap}
use Rattle.ff_store.specs.Counts.{objects_of, count_of}
use Rattle.ff_store.specs.declared.counted.Counted.{Counted}

-- the groups' priorities, the classifiers' selectors and the rules, by id and within a room
abbrev pub GroupMap : Type 0
GroupMap = BoundedMap (Counted ℕ)

abbrev pub ClassifierMap : Type 0
ClassifierMap = BoundedMap (Counted (List SelectorParts))

abbrev pub RuleMap : Type 0
RuleMap = BoundedMap RuleParts

-- the objects that the maps hold
abbrev pub objects_in : GroupMap → ClassifierMap → RuleMap → FlowObjects
objects_in groups classifiers rules = record {
  groups = objects_of groups.entries;
  classifiers = objects_of classifiers.entries;
  rules = rules.entries;
}

-- the limits are the rooms, the objects are well formed, and each count is that of the rules that name the id
pub record IsStore (limits : Limits) (groups : GroupMap) (classifiers : ClassifierMap) (rules : RuleMap) : Type 0 where
  pub groups_room : groups.room ≡ limits.groups
  pub classifiers_room : classifiers.room ≡ limits.classifiers
  pub rules_room : rules.room ≡ limits.rules
  pub well_formed : IsWellFormed limits (objects_in groups classifiers rules)
  pub group_counts : (id : ℕ) → count_of groups.entries id ≡ rules_in_group (objects_in groups classifiers rules) id
  pub classifier_counts : (id : ℕ)
      → count_of classifiers.entries id ≡ rules_with_classifier (objects_in groups classifiers rules) id
  pub counts_fit : limits.rules < 2 ^ 32
