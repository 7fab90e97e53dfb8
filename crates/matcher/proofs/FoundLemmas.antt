-- What is found is the first rule that matches, or none exactly where no rule matches.
use Rattle.std.proofs.Common.{◌≡◌, true, false, Option, Some, None, refl}
use Rattle.std.specs.Prelude.{IsSome, IsNone, IfSome, ◌↔◌}
use Rattle.std.specs.Option.{option_map, option_map_or}
use Rattle.ff_headers.specs.Frames.{HeaderBytes}
use Rattle.ff_headers.specs.Objects.{FlowObjects, IsById}
use Rattle.ff_headers.specs.Places.{RuleEntry, IsMatching, IsFirst, first_rule, action_of}
use Rattle.ff_headers.proofs.PlaceLemmas.{first_rule_is_first, first_rule_is_found}
use Rattle.matcher.specs.Candidates.{candidate_of, found_with}
use Rattle.matcher.specs.Findings.{found_in, found_rule, found_none, IsFirstUnder}
use Rattle.matcher.specs.declared.found.Found.{Found}
use Rattle.matcher.specs.declared.scan.Candidate.{Candidate}

with_rule : (objects : FlowObjects) (rule : Option RuleEntry) → found_with (option_map (candidate_of objects) rule) ≡ option_map_or found_rule rule found_none
with_rule objects None = refl
with_rule objects (Some entry) = refl

pub is_found : (objects : FlowObjects) (headers : HeaderBytes) (first : Option Candidate) → first ≡ option_map (candidate_of objects) (first_rule objects headers) → found_with first ≡ found_in objects headers
unfolding found_in
is_found objects headers first is = rw is (with_rule objects (first_rule objects headers))

-- what `found_in` says of the rules
pub record Finds (objects : FlowObjects) (headers : HeaderBytes) (found : Found) : Type 0 where
  pub value : found ≡ found_in objects headers
  pub action : found.action ≡ action_of objects headers
  pub first : IfSome found.rule (IsFirstUnder objects headers)
  pub none : IsNone found.rule ↔ ((entry : RuleEntry) → ¬ IsMatching objects headers entry)

none_is_some : false ≡ true → ⊥
none_is_some h = cc

some_is_none : true ≡ false → ⊥
some_is_none h = cc

module _ (objects : FlowObjects) (headers : HeaderBytes) where
  by_rule : (rule : Option RuleEntry) → first_rule objects headers ≡ rule → IfSome rule (IsFirst objects headers) → (IsSome rule ↔ ((entry : RuleEntry) × IsMatching objects headers entry)) → Finds objects headers (option_map_or found_rule rule found_none)
  unfolding found_in action_of
  by_rule None is first found = record {
    value = rw is refl;
    action = rw is refl;
    first = tt;
    none = (λ _ entry m. none_is_some (found.1 (entry, m)), λ _. refl);
  }
  by_rule (Some entry) is first found = record {
    value = rw is refl;
    action = rw is refl;
    first = (entry.1, first);
    none = (λ h. absurd (some_is_none h), λ h. absurd (h entry first.matching));
  }

  pub finds : (found : Found) → IsById objects.rules → found ≡ found_in objects headers → Finds objects headers found
  unfolding found_in
  finds found sorted is =
      rw is (by_rule (first_rule objects headers) refl (first_rule_is_first objects headers sorted) (first_rule_is_found objects headers sorted))
