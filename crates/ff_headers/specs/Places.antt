-- The order of rules, and the first rule that matches. The priorities are those of the Virtio 1.4 draft's flow
-- filter; that the smaller number comes first, and the order by id, are this project's own.
use Rattle.std.specs.Prelude.{◌≡◌, ℕ, ◌/◌, Bool, false, List, [], ◌∷◌, filter, Option, Some, None, IsTrue, unwrap_or}
use Rattle.std.specs.List.{best_of}
use Rattle.std.specs.Option.{option_map_or}
use Rattle.std.specs.Ordering.{nat_cmp, ordering_then, is_lt}
use Rattle.std.specs.declared.cmp.Ordering.{Ordering}
use Rattle.ff_headers.specs.RuleParts.{RuleParts}
use Rattle.ff_headers.specs.Frames.{HeaderBytes}
use Rattle.ff_headers.specs.Matching.{matches}
use Rattle.ff_headers.specs.Objects.{FlowObjects, object_under}
use Rattle.ff_headers.specs.declared.rule.RuleAction.{RuleAction}
use Rattle.ff_headers.specs.declared.rule.RuleAction.TheVariants as rule_action
use Rattle.ff_headers.specs.declared.rule.Action.{Action}
use Rattle.ff_headers.specs.declared.rule.Action.TheVariants as action

-- a rule with its id
abbrev pub RuleEntry : Type 0
RuleEntry = ℕ × RuleParts

-- a group's priority, a rule's priority in the group, and the rule's id
abbrev pub Place : Type 0
Place = ℕ × ℕ × ℕ

-- the place of a rule; a group that isn't held counts as priority 0
abbrev pub place_of : FlowObjects → RuleEntry → Place
place_of objects entry =
    (unwrap_or (object_under objects.groups entry.1.group) 0, entry.1.priority, entry.0)

-- places are ordered by their first difference
abbrev pub place_cmp : Place → Place → Ordering
place_cmp p q = ordering_then (nat_cmp p.0 q.0) (ordering_then (nat_cmp p.1 q.1) (nat_cmp p.2 q.2))

-- whether one rule stands before another
abbrev pub is_before : FlowObjects → RuleEntry → RuleEntry → Bool
is_before objects a b = is_lt (place_cmp (place_of objects a) (place_of objects b))

-- whether the rule's classifier is held and, with the rule's key, matches the headers
unfoldable pub rule_matches : FlowObjects → HeaderBytes → RuleParts → Bool
rule_matches objects headers rule =
    option_map_or (λ selectors. matches selectors rule.key headers)
    (object_under objects.classifiers rule.classifier) false

-- the rule is held under the id, and matches the headers
pub record IsMatching (objects : FlowObjects) (headers : HeaderBytes) (entry : RuleEntry) : Type 0 where
  pub is_held : object_under objects.rules entry.0 ≡ Some entry.1
  pub fits_headers : IsTrue (rule_matches objects headers entry.1)

-- a rule that matches, where no rule that matches has a lesser place
pub record IsFirst (objects : FlowObjects) (headers : HeaderBytes) (entry : RuleEntry) : Type 0 where
  pub matching : IsMatching objects headers entry
  pub least : (other : RuleEntry) → IsMatching objects headers other → ¬ IsTrue (is_before objects other entry)

-- the rules that match the headers
abbrev pub matching_rules : FlowObjects → HeaderBytes → List RuleEntry
matching_rules objects headers = filter (λ entry. rule_matches objects headers entry.1) objects.rules

-- the entry of least place
abbrev pub least_rule : FlowObjects → List RuleEntry → Option RuleEntry
least_rule objects [] = None
least_rule objects (entry ∷ entries) = Some (best_of (is_before objects) entry entries)

-- the first rule that matches: the least by place of those that match
unfoldable pub first_rule : FlowObjects → HeaderBytes → Option RuleEntry
first_rule objects headers = least_rule objects (matching_rules objects headers)

-- what a rule of the action and virtqueue index does with a frame: an even index names the receive queue of half its
-- number (Virtio 1.4 draft, network device, virtqueues)
abbrev pub action_with : RuleAction → ℕ → Action
action_with rule_action.Drop vq = action.Drop
action_with rule_action.Queue vq = action.Queue (vq / 2)

-- what happens to a frame with these headers
unfoldable pub action_of : FlowObjects → HeaderBytes → Action
action_of objects headers =
    option_map_or (λ entry. action_with entry.1.action entry.1.vq) (first_rule objects headers) action.Default
