-- What the rules that stand for specs do is what the specs do.
use Rattle.std.proofs.Common.{◌≡◌, ℕ, ◌+◌, ◌*◌, ◌/◌, ◌<◌, Bool, true, false, cond, List, [], ◌∷◌, Option, Some, refl, ap, ◌∙◌, arith}
use Rattle.std.specs.Prelude.{⊤, find}
use Rattle.std.specs.Option.{option_map_or}
use Rattle.ff_headers.specs.Frames.{HeaderBytes}
use Rattle.ff_headers.specs.Objects.{FlowObjects}
use Rattle.ff_headers.specs.Places.{RuleEntry, action_of, action_with, rule_matches}
use Rattle.ff_headers.specs.declared.limits.Limits.{Limits}
use Rattle.ff_headers.specs.declared.rule.Action.{Action}
use Rattle.ff_headers.specs.declared.rule.Action.TheVariants as action
use Rattle.ntuple_text.specs.declared.spec.Spec.{Spec}
use Rattle.ntuple_text.specs.declared.spec.TableDo.{TableDo}
use Rattle.ntuple_text.specs.declared.spec.TableDo.TheVariants.{Drop, Queue}
use Rattle.ntuple_compile.specs.Compiled.{SelectorList, action_of_spec, objects_of, rules_per_group, shapes_of, spec_rule, virtqueue_of}
use Rattle.ntuple_compile.specs.SpecFits.{action_for, spec_fits, specs_action}
use Rattle.ntuple_compile.proofs.RuleOrder.{first_in_order, objects_in_order, rules_from}

-- the action byte and the virtqueue index of a spec's rule say what the spec does
same_action : (what : TableDo) → action_with (action_of_spec what) (virtqueue_of what) ≡ action_for what
same_action Drop = refl
same_action (Queue queue) = let half : 2 * queue / 2 ≡ queue = omega arith in ap (λ n. action.Queue n) half

-- the rule of each spec, the first of which has this number, matches the headers exactly where these fit the spec
abbrev pub EachMatches : FlowObjects → HeaderBytes → ℕ → List SelectorList → ℕ → List Spec → Type 0
EachMatches objects headers size shapes from [] = ⊤
EachMatches objects headers size shapes from (spec ∷ specs) =
    (rule_matches objects headers (spec_rule size shapes from spec) ≡ spec_fits spec headers) × EachMatches objects headers size shapes (from + 1) specs

-- what an entry does
abbrev entry_action : Option RuleEntry → Action
entry_action found = option_map_or (λ e. action_with e.1.action e.1.vq) found action.Default

-- what a spec does
abbrev spec_action : Option Spec → Action
spec_action found = option_map_or (λ spec. action_for spec.action) found action.Default

found_acts : (objects : FlowObjects) (headers : HeaderBytes) (size : ℕ) (shapes : List SelectorList) (from : ℕ) (specs : List Spec) → EachMatches objects headers size shapes from specs → entry_action (find (λ e. rule_matches objects headers e.1) (rules_from size shapes from specs)) ≡ spec_action (find (λ spec. spec_fits spec headers) specs)
found_acts objects headers size shapes from [] each = refl
found_acts objects headers size shapes from (spec ∷ specs) each = by_test (rule_matches objects headers (spec_rule size shapes from spec)) (spec_fits spec headers) each.0 (found_acts objects headers size shapes (from + 1) specs each.1) where
  by_test : (matched fits : Bool) → matched ≡ fits → entry_action (find (λ e. rule_matches objects headers e.1) (rules_from size shapes (from + 1) specs)) ≡ spec_action (find (λ spec. spec_fits spec headers) specs) → entry_action (cond matched (Some (from, spec_rule size shapes from spec)) (find (λ e. rule_matches objects headers e.1) (rules_from size shapes (from + 1) specs))) ≡ spec_action (cond fits (Some spec) (find (λ spec. spec_fits spec headers) specs))
  by_test matched true is rest = rw is (same_action spec.action)
  by_test matched false is rest = rw is rest

-- the action of the objects is that of the specs, where each rule matches as its spec fits
pub objects_act : (limits : Limits) (specs : List Spec) (headers : HeaderBytes) → 0 < rules_per_group limits → EachMatches (objects_of limits specs) headers (rules_per_group limits) (shapes_of specs) 0 specs → action_of (objects_of limits specs) headers ≡ specs_action specs headers
unfolding action_of objects_of specs_action
objects_act limits specs headers some each =
    ap entry_action (first_in_order (objects_of limits specs) headers (objects_in_order limits specs some)) ∙ found_acts (objects_of limits specs) headers (rules_per_group limits) (shapes_of specs) 0 specs each
