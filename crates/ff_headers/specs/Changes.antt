-- What a list of changes leaves. The objects are those of the Virtio 1.4 draft's flow filter; which change is sound
-- is this project's own. The limits are the device's.
use Rattle.std.specs.Prelude.{ℕ, ◌+◌, ◌-◌, ◌^◌, min, count_by, Bool, true, false, not, ◌&&◌, ◌||◌, ◌==◌, nat_lt, List, length, take, fold, is_some, if◌then◌else◌}
use Rattle.std.specs.List.{list_any}
use Rattle.std.specs.Map.{remove_entry}
use Rattle.std.specs.Option.{option_map_or}
use Rattle.std.specs.Ordering.{nat_cmp}
use Rattle.std.specs.BTreeMap.{insert_entry, is_at}
use Rattle.ff_headers.specs.RuleParts.{RuleParts}
use Rattle.ff_headers.specs.Shapes.{HasShape}
use Rattle.ff_headers.specs.Matching.{key_size}
use Rattle.ff_headers.specs.Objects.{FlowObjects, no_objects, object_under}
use Rattle.ff_headers.specs.declared.limits.Limits.{Limits}
use Rattle.ff_headers.specs.declared.change.Change.{Change}
use Rattle.ff_headers.specs.declared.change.Change.TheVariants.{PutGroup, DropGroup, PutClassifier, DropClassifier, PutRule, DropRule, Close}

-- the entries with an object under an id
abbrev pub put : {X : Type 0} → List (ℕ × X) → ℕ → X → List (ℕ × X)
put entries id object = insert_entry nat_cmp entries id object

-- the entries without an id
abbrev pub without : {X : Type 0} → List (ℕ × X) → ℕ → List (ℕ × X)
without entries id = remove_entry (is_at (nat_cmp id)) entries

-- whether the id is held, or there is room for one more object
abbrev pub has_room : {X : Type 0} → List (ℕ × X) → ℕ → ℕ → Bool
has_room entries id limit = is_some (object_under entries id) || nat_lt (length entries) limit

-- whether a group of another id has the priority
abbrev pub is_priority_taken : FlowObjects → ℕ → ℕ → Bool
is_priority_taken objects id priority = list_any (λ e. not (e.0 == id) && (e.1 == priority)) objects.groups

-- whether some rule names the group
abbrev pub names_group : FlowObjects → ℕ → Bool
names_group objects id = list_any (λ e. e.1.group == id) objects.rules

-- whether some rule names the classifier
abbrev pub names_classifier : FlowObjects → ℕ → Bool
names_classifier objects id = list_any (λ e. e.1.classifier == id) objects.rules

-- whether the rule's group and classifier are held, and its key has the classifier's key size
abbrev pub is_backed : FlowObjects → RuleParts → Bool
is_backed objects rule =
    is_some (object_under objects.groups rule.group)
    && option_map_or (λ selectors. length rule.key == key_size selectors)
    (object_under objects.classifiers rule.classifier) false

-- whether a change is sound in the objects
unfoldable pub is_sound : Limits → FlowObjects → Change → Bool
is_sound limits objects (PutGroup id priority) =
    has_room objects.groups id limits.groups && not (is_priority_taken objects id priority)
is_sound limits objects (DropGroup id) = not (names_group objects id)
is_sound limits objects (PutClassifier id selectors) =
    if is_some (object_under objects.classifiers id) then not (names_classifier objects id)
    else nat_lt (length objects.classifiers) limits.classifiers
is_sound limits objects (DropClassifier id) = not (names_classifier objects id)
is_sound limits objects (PutRule id rule) =
    is_backed objects rule && has_room objects.rules id limits.rules
is_sound limits objects (DropRule id) = true
is_sound limits objects Close = false

-- the objects with one entry set or removed
unfoldable pub with_change_made : FlowObjects → Change → FlowObjects
with_change_made objects (PutGroup id priority) = record objects { groups = put objects.groups id priority }
with_change_made objects (DropGroup id) = record objects { groups = without objects.groups id }
with_change_made objects (PutClassifier id selectors) =
    record objects { classifiers = put objects.classifiers id selectors }
with_change_made objects (DropClassifier id) = record objects { classifiers = without objects.classifiers id }
with_change_made objects (PutRule id rule) = record objects { rules = put objects.rules id rule }
with_change_made objects (DropRule id) = record objects { rules = without objects.rules id }
with_change_made objects Close = objects

-- a classifier that is put has good shape
abbrev pub CarriesShape : Change → Type 0
CarriesShape (PutClassifier id selectors) = HasShape selectors
CarriesShape _ = Unit {0}

-- the objects after a change: one that isn't sound changes nothing
unfoldable pub step : Limits → FlowObjects → Change → FlowObjects
step limits objects change = if is_sound limits objects change then with_change_made objects change else objects

-- the objects that the first k changes leave, starting with none
unfoldable pub after : Limits → List Change → ℕ → FlowObjects
after limits changes k = fold (step limits) no_objects (take k changes)

-- the change that no further one follows
abbrev pub is_close : Change → Bool
is_close Close = true
is_close _ = false

-- how many of the changes aren't the one that closes the list
abbrev pub change_count : List Change → ℕ
change_count changes = count_by (λ change. not (is_close change)) changes

-- a count of 64 bits, which stands still at its type's end
abbrev pub saturated : ℕ → ℕ
saturated count = min count (2 ^ 64 - 1)

-- the count of changes after one more
abbrev pub count_after : ℕ → Change → ℕ
count_after count change = if is_close change then count else saturated (count + 1)
