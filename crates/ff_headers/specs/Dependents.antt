-- How many rules name a group or a classifier (Virtio 1.4 draft, flow filter rule).
use Rattle.std.specs.Prelude.{ℕ, not, ◌&&◌, ◌==◌, count_by}
use Rattle.ff_headers.specs.Objects.{FlowObjects}

-- the rules that name the group
abbrev pub rules_in_group : FlowObjects → ℕ → ℕ
rules_in_group objects group = count_by (λ entry. entry.1.group == group) objects.rules

-- the rules that name the classifier
abbrev pub rules_with_classifier : FlowObjects → ℕ → ℕ
rules_with_classifier objects classifier = count_by (λ entry. entry.1.classifier == classifier) objects.rules

-- the rules of another id that name the group
abbrev pub other_rules_in_group : FlowObjects → ℕ → ℕ → ℕ
other_rules_in_group objects id group =
    count_by (λ entry. not (entry.0 == id) && (entry.1.group == group)) objects.rules
