-- What contracts see of a rule.
use Rattle.std.specs.Prelude.{ℕ, List}
use Rattle.ff_headers.specs.declared.rule.RuleAction.{RuleAction}

-- a rule's group and classifier by id, its priority in the group, action, virtqueue index and key
-- (Virtio 1.4 draft, flow filter rule)
pub record RuleParts : Type 0 where
  pub group : ℕ
  pub classifier : ℕ
  pub priority : ℕ
  pub action : RuleAction
  pub vq : ℕ
  pub key : List ℕ

-- the rule with these parts
abbrev pub rule_with : ℕ → ℕ → ℕ → RuleAction → ℕ → List ℕ → RuleParts
rule_with g c p a v k = record { group = g; classifier = c; priority = p; action = a; vq = v; key = k }
