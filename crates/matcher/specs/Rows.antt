-- How rules are kept for a search: as rows, by shape, then by masked key, then by place. This project's own.
use Rattle.std.specs.Prelude.{◌≡◌, Bool, true, ◌≢◌, ℕ, ◌<◌, ◌==◌, Option, Some, None, List, [], length, slice_index_or, Contains, IsSome, map, take, unwrap_or, if◌then◌else◌}
use Rattle.std.specs.List.{list_any}
use Rattle.std.specs.Option.{option_map, option_map_or}
use Rattle.std.specs.Ordering.{nat_cmp, ordering_then, is_lt}
use Rattle.std.specs.declared.cmp.Ordering.{Ordering}
use Rattle.std.specs.declared.cmp.Ordering.TheVariants.{Less}
use Rattle.std.specs.Cmp.Lexicographic.{slice_cmp}
use Rattle.ff_headers.specs.SelectorParts.{SelectorParts}
use Rattle.ff_headers.specs.Objects.{FlowObjects, object_under}
use Rattle.ff_headers.specs.Places.{RuleEntry, place_cmp, action_with}
use Rattle.ff_headers.specs.Changes.{with_change_made}
use Rattle.ff_headers.specs.declared.change.Change.TheVariants.{PutGroup}
use Rattle.matcher.specs.Keys.{Shape, shape_of, masked_key}
use Rattle.matcher.specs.declared.scan.Candidate.{Candidate}
use Rattle.matcher.specs.declared.rows.Row.{Row}

-- what is kept of a rule: the shape of its classifier, its masked key, its place and what it does
pub record Kept : Type 0 where
  pub shape : Shape
  pub key : List ℕ
  pub candidate : Candidate

-- a rule whose group has a priority, as a candidate
abbrev pub candidate_with : ℕ → RuleEntry → Candidate
candidate_with group_priority entry = record {
  place = (group_priority, entry.1.priority, entry.0);
  action = action_with entry.1.action entry.1.vq;
}

-- what is kept of a rule with these selectors, whose group has a priority
abbrev pub kept_with : ℕ → RuleEntry → List SelectorParts → Kept
kept_with group_priority entry selectors = record {
  shape = shape_of selectors;
  key = masked_key selectors entry.1.key;
  candidate = candidate_with group_priority entry;
}

-- the same, where the rule's classifier is held
abbrev pub kept_by : FlowObjects → ℕ → RuleEntry → Option Kept
kept_by objects group_priority entry =
    option_map (kept_with group_priority entry) (object_under objects.classifiers entry.1.classifier)

-- the priority of a group; one that isn't held counts as 0
abbrev pub priority_of : FlowObjects → ℕ → ℕ
priority_of objects group = unwrap_or (object_under objects.groups group) 0

-- what is kept of a rule
abbrev pub kept_of : FlowObjects → RuleEntry → Option Kept
kept_of objects entry = kept_by objects (priority_of objects entry.1.group) entry

-- what is kept of the rule under an id, where one is held
unfoldable pub kept_under : FlowObjects → ℕ → Option Kept
kept_under objects id = option_map_or (λ rule. kept_of objects (id, rule)) (object_under objects.rules id) None

-- the shapes of the classifiers
abbrev pub held_shapes : FlowObjects → List Shape
held_shapes objects = map (λ e. shape_of e.1) objects.classifiers

-- what is kept is of held rules and held classifiers
abbrev pub AreHeld : FlowObjects → (ℕ → Option Kept) → Type 0
AreHeld objects kept = (id : ℕ) (one : Kept) → kept id ≡ Some one
    → IsSome (object_under objects.rules id) × Contains (held_shapes objects) one.shape

-- the same, but for one id
abbrev pub with_kept : (ℕ → Option Kept) → ℕ → Option Kept → ℕ → Option Kept
with_kept kept id one other = if other == id then one else kept other

-- the same, but for a rule of the group, which takes another priority
abbrev pub moved : FlowObjects → ℕ → ℕ → RuleEntry → (ℕ → Option Kept) → ℕ → Option Kept
moved objects group priority entry kept id =
    if entry.1.group == group then with_kept kept entry.0 (kept_by objects priority entry) id else kept id

-- what is kept under an id once the rules of the group among the first so many have taken another priority
abbrev pub moved_so_far : FlowObjects → ℕ → ℕ → ℕ → ℕ → Option Kept
moved_so_far objects group priority count id =
    if list_any (λ entry. entry.0 == id) (take count objects.rules)
    then kept_under (with_change_made objects (PutGroup group priority)) id else kept_under objects id

-- the id of a row's rule
abbrev pub id_of : Row → ℕ
id_of row = row.candidate.place.2

-- rows of one shape are ordered by key, then by place
abbrev pub cmp_in_shape : Row → Row → Ordering
cmp_in_shape a b =
    ordering_then (slice_cmp nat_cmp a.key.items b.key.items) (place_cmp a.candidate.place b.candidate.place)

-- rows are ordered by shape number, then by key, then by place
abbrev pub row_cmp : Row → Row → Ordering
row_cmp a b = ordering_then (nat_cmp a.shape b.shape) (cmp_in_shape a b)

-- whether one row comes before another
unfoldable pub stands_before : Row → Row → Bool
stands_before a b = is_lt (row_cmp a b)

-- the selectors of a shape's number
abbrev pub selectors_at : List (List SelectorParts) → ℕ → List SelectorParts
selectors_at shapes number = slice_index_or shapes number []

-- a row is what is kept of a rule
pub record IsRow (shapes : List (List SelectorParts)) (row : Row) (kept : Kept) : Type 0 where
  pub within : row.shape < length shapes
  pub shape : shape_of (selectors_at shapes row.shape) ≡ kept.shape
  pub key : row.key.items ≡ kept.key
  pub candidate : row.candidate ≡ kept.candidate

-- a row is what is kept under its id
abbrev pub IsKeptRow : (ℕ → Option Kept) → List (List SelectorParts) → Row → Type 0
IsKeptRow kept shapes row = (one : Kept) × (kept (id_of row) ≡ Some one) × IsRow shapes row one

-- each row is before those after it
abbrev pub AreRising : List Row → Type 0
AreRising rows =
    (i j : ℕ) (d : Row) → i < j → j < length rows → row_cmp (slice_index_or rows i d) (slice_index_or rows j d) ≡ Less

-- no two of the numbers have one shape
abbrev pub AreDistinctShapes : List (List SelectorParts) → Type 0
AreDistinctShapes shapes =
    (i j : ℕ) → i < j → j < length shapes → shape_of (selectors_at shapes i) ≢ shape_of (selectors_at shapes j)

-- the rows are all that is kept, in order, and each shape has one number
pub record AreRows (kept : ℕ → Option Kept) (shapes : List (List SelectorParts)) (rows : List Row) : Type 0 where
  pub apart : AreDistinctShapes shapes
  pub rising : AreRising rows
  pub sound : (row : Row) → Contains rows row → IsKeptRow kept shapes row
  pub complete : (id : ℕ) (one : Kept) → kept id ≡ Some one → (row : Row) × Contains rows row × (id_of row ≡ id)

-- no number has the selectors' shape
abbrev pub IsNew : List (List SelectorParts) → List SelectorParts → Type 0
IsNew shapes selectors = (i : ℕ) → i < length shapes → shape_of (selectors_at shapes i) ≢ shape_of selectors

-- some row has each number
abbrev pub AreUsed : List (List SelectorParts) → List Row → Type 0
AreUsed shapes rows = (i : ℕ) → i < length shapes → list_any (λ row. row.shape == i) rows ≡ true
