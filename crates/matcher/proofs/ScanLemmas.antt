-- A walk over the rules keeps the least of those that match.
use Rattle.std.proofs.Common.{◌≡◌, ℕ, ◌+◌, ◌<◌, ◌≤◌, Bool, true, false, cond, List, [], ◌∷◌, ◌++◌, length, get_or, take, Option, Some, None, refl, sym, ap, subst, ◌∙◌, append-nil, filter}
use Rattle.std.specs.Prelude.{slice_get, Contains}
use Rattle.std.specs.Option.{option_map}
use Rattle.std.proofs.lemmas.List.{take_more, take_all}
use Rattle.std.proofs.lemmas.List.Elements.{filter-append, Contains-get_or}
use Rattle.std.proofs.lemmas.Option.{get_or_from_slice_get, slice_get_within}
use Rattle.std.proofs.lemmas.List.Sums.{fold-append}
use Rattle.ff_headers.specs.Frames.{HeaderBytes}
use Rattle.ff_headers.specs.Matching.{matches}
use Rattle.ff_headers.specs.Objects.{FlowObjects, object_under, IsWellFormed, IsBacked}
use Rattle.ff_headers.specs.Places.{RuleEntry, is_before, rule_matches, least_rule, first_rule}
use Rattle.ff_headers.specs.RuleParts.{RuleParts}
use Rattle.ff_headers.specs.SelectorParts.{SelectorParts}
use Rattle.ff_headers.specs.declared.limits.Limits.{Limits}
use Rattle.ff_headers.proofs.EntryLemmas.{held_from_entry}
use Rattle.matcher.specs.Candidates.{candidate_of, candidate_among, earlier}
use Rattle.matcher.specs.declared.scan.Candidate.{Candidate}

-- ---- one rule

-- the rule's classifier is held, so its selectors decide
pub rule_matches_by : (objects : FlowObjects) (headers : HeaderBytes) (rule : RuleParts) (selectors : List SelectorParts) (b : Bool) → Some selectors ≡ object_under objects.classifiers rule.classifier → b ≡ matches selectors rule.key headers → rule_matches objects headers rule ≡ b
unfolding rule_matches
rule_matches_by objects headers rule selectors b is by = rw (← is, ← by) refl

pub candidate_none : (objects : FlowObjects) (headers : HeaderBytes) (entry : RuleEntry) → rule_matches objects headers entry.1 ≡ false → None ≡ candidate_among objects headers entry
candidate_none objects headers entry misses = rw misses refl

pub candidate_some : (objects : FlowObjects) (headers : HeaderBytes) (entry : RuleEntry) (found : Candidate) → rule_matches objects headers entry.1 ≡ true → found ≡ candidate_of objects entry → Some found ≡ candidate_among objects headers entry
candidate_some objects headers entry found fits is = rw (fits, is) refl

-- a rule of well-formed objects is backed
pub backed_at : (limits : Limits) (objects : FlowObjects) (place : ℕ) (entry : RuleEntry) → IsWellFormed limits objects → slice_get objects.rules place ≡ Some entry → IsBacked objects entry.1
backed_at limits objects place entry well is =
    well.backed entry.0 entry.1 (held_from_entry objects.rules entry well.by_id.rules_rise has) where
      has : Contains objects.rules entry
      has = subst (Contains objects.rules) (get_or_from_slice_get objects.rules place entry entry is) (Contains-get_or objects.rules place entry (slice_get_within objects.rules place entry is))

-- ---- the first of candidates, as rules

first_of : FlowObjects → Option RuleEntry → RuleEntry → RuleEntry
first_of objects None entry = entry
first_of objects (Some best) entry = cond (is_before objects entry best) entry best

-- one more rule in a list of those that match
least_rule-push : (objects : FlowObjects) (entries : List RuleEntry) (entry : RuleEntry) → least_rule objects (entries ++ entry ∷ []) ≡ Some (first_of objects (least_rule objects entries) entry)
unfolding first_of
least_rule-push objects [] entry = refl
least_rule-push objects (e ∷ es) entry =
    ap Some (fold-append (λ (b x : RuleEntry). cond (is_before objects x b) x b) e es (entry ∷ []))

candidate_of-cond : (objects : FlowObjects) (b : Bool) (x y : RuleEntry) → candidate_of objects (cond b x y) ≡ cond b (candidate_of objects x) (candidate_of objects y)
candidate_of-cond objects true x y = refl
candidate_of-cond objects false x y = refl

earlier-first_of : (objects : FlowObjects) (best : Option RuleEntry) (entry : RuleEntry) → earlier (option_map (candidate_of objects) best) (Some (candidate_of objects entry)) ≡ Some (candidate_of objects (first_of objects best entry))
unfolding first_of
earlier-first_of objects None entry = refl
earlier-first_of objects (Some best) entry =
    ap Some (sym (candidate_of-cond objects (is_before objects entry best) entry best))

earlier-none : (first : Option Candidate) → earlier first None ≡ first
earlier-none None = refl
earlier-none (Some c) = refl

-- ---- the walk

-- one more rule, whether or not it matches
walk_step : (objects : FlowObjects) (headers : HeaderBytes) (entries : List RuleEntry) (entry : RuleEntry) (b : Bool) → rule_matches objects headers entry.1 ≡ b → earlier (option_map (candidate_of objects) (least_rule objects entries)) (cond b (Some (candidate_of objects entry)) None) ≡ option_map (candidate_of objects) (least_rule objects (entries ++ cond b (entry ∷ []) []))
walk_step objects headers entries entry true is =
    earlier-first_of objects (least_rule objects entries) entry ∙ ap (option_map (candidate_of objects)) (sym (least_rule-push objects entries entry))
walk_step objects headers entries entry false is =
    earlier-none (option_map (candidate_of objects) (least_rule objects entries)) ∙ ap (λ es. option_map (candidate_of objects) (least_rule objects es)) (sym (append-nil entries))

-- the rules that match among the first so many
abbrev pub matching : FlowObjects → HeaderBytes → ℕ → List RuleEntry
matching objects headers n = filter (λ (entry : RuleEntry). rule_matches objects headers entry.1) (take n objects.rules)

pub walk_more : (objects : FlowObjects) (headers : HeaderBytes) (i : ℕ) (entry : RuleEntry) (first : Option Candidate) → i < length objects.rules → entry ≡ get_or objects.rules i entry → first ≡ option_map (candidate_of objects) (least_rule objects (matching objects headers i)) → earlier first (candidate_among objects headers entry) ≡ option_map (candidate_of objects) (least_rule objects (matching objects headers (i + 1)))
walk_more objects headers i entry first within is kept =
    let p = λ (e : RuleEntry). rule_matches objects headers e.1 in
    let more : matching objects headers (i + 1) ≡ matching objects headers i ++ cond (p entry) (entry ∷ []) [] =
    ap (filter p) (take_more objects.rules i entry within) ∙ filter-append p (take i objects.rules) (get_or objects.rules i entry ∷ []) ∙ ap (λ (e : RuleEntry). matching objects headers i ++ filter p (e ∷ [])) (sym is) in
    rw (kept, more) (walk_step objects headers (matching objects headers i) entry (p entry) refl)

-- the walk is done
pub walk_all : (objects : FlowObjects) (headers : HeaderBytes) (n : ℕ) → length objects.rules ≤ n → option_map (candidate_of objects) (least_rule objects (matching objects headers n)) ≡ option_map (candidate_of objects) (first_rule objects headers)
unfolding first_rule
walk_all objects headers n all =
    ap (λ (rules : List RuleEntry). option_map (candidate_of objects) (least_rule objects (filter (λ (entry : RuleEntry). rule_matches objects headers entry.1) rules))) (take_all n objects.rules all)
