-- Which objects a destroy may drop. This project's own.
use Rattle.std.specs.Prelude.{◌≡◌, ◌≢◌, ℕ, Some, ⊤}
use Rattle.ff_headers.specs.RuleParts.{RuleParts}
use Rattle.ff_headers.specs.Objects.{FlowObjects, object_under}
use Rattle.ff_headers.specs.declared.change.Change.{Change}
use Rattle.ff_headers.specs.declared.change.Change.TheVariants.{DropGroup, DropClassifier}

-- where the change drops a group or a classifier, no rule that is held names it
abbrev pub DropsUnnamed : FlowObjects → Change → Type 0
DropsUnnamed objects (DropGroup id) =
    (at : ℕ) (rule : RuleParts) → object_under objects.rules at ≡ Some rule → rule.group ≢ id
DropsUnnamed objects (DropClassifier id) =
    (at : ℕ) (rule : RuleParts) → object_under objects.rules at ≡ Some rule → rule.classifier ≢ id
DropsUnnamed objects _ = ⊤
