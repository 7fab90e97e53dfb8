-- The objects that stand for specs do with each frame what the specs do.
use Rattle.std.proofs.Common.{◌≡◌, ℕ, ◌+◌, ◌<◌, List, [], ◌∷◌}
use Rattle.std.specs.List.{AllByRecursion}
use Rattle.byte_numbers.specs.Bytes.{IsBytes}
use Rattle.ff_headers.specs.Frames.{HeaderBytes, headers_of}
use Rattle.ff_headers.specs.Places.{action_of}
use Rattle.ff_headers.specs.declared.limits.Limits.{Limits}
use Rattle.ntuple_text.specs.Spellable.{IsSpellable}
use Rattle.ntuple_text.specs.declared.spec.Spec.{Spec}
use Rattle.ntuple_compile.specs.Compiled.{objects_of, rules_per_group, shapes_of}
use Rattle.ntuple_compile.specs.SpecFits.{specs_action}
use Rattle.ntuple_compile.proofs.HeaderLemmas.{AreHeaders, headers_are_sound}
use Rattle.ntuple_compile.proofs.RuleActions.{EachMatches, objects_act}
use Rattle.ntuple_compile.proofs.RuleMatches.{held_matches}
use Rattle.ntuple_compile.proofs.ShapeNumbers.{HasClassifier, classifiers_found}

-- each rule matches where its spec fits
each_matches : (limits : Limits) (all : List Spec) (headers : HeaderBytes) (pairs : ℕ) → AreHeaders headers → (from : ℕ) (specs : List Spec) → AllByRecursion (IsSpellable pairs) specs → AllByRecursion (HasClassifier (shapes_of all)) specs → EachMatches (objects_of limits all) headers (rules_per_group limits) (shapes_of all) from specs
unfolding objects_of
each_matches limits all headers pairs are from [] spellable held = tt
each_matches limits all headers pairs are from (spec ∷ specs) spellable held =
    (held_matches (objects_of limits all) headers (rules_per_group limits) (shapes_of all) from spec pairs spellable.0 are held.0, each_matches limits all headers pairs are (from + 1) specs spellable.1 held.1)

-- the action of the objects is that of the specs
pub objects_act_as_specs : (limits : Limits) (specs : List Spec) (pairs : ℕ) (frame : List ℕ) → AllByRecursion (IsSpellable pairs) specs → 0 < rules_per_group limits → IsBytes frame → action_of (objects_of limits specs) (headers_of frame) ≡ specs_action specs (headers_of frame)
objects_act_as_specs limits specs pairs frame spellable some bytes =
    objects_act limits specs (headers_of frame) some (each_matches limits specs (headers_of frame) pairs (headers_are_sound frame bytes) 0 specs spellable (classifiers_found specs))
