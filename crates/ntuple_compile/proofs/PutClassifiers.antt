-- The creates of classifiers are obeyed, one after another.
use Rattle.std.proofs.Common.{◌≡◌, ℕ, ◌+◌, ◌<◌, ◌≤◌, true, not, List, [], ◌∷◌, ◌++◌, map, length, None, refl, sym, ap, arith, subst, append_assoc, length-append}
use Rattle.std.specs.Prelude.{is_some}
use Rattle.std.specs.List.{AllByRecursion, enumerate_from}
use Rattle.std.proofs.lemmas.Bool.{lt-leb}
use Rattle.std.proofs.lemmas.List.{append-nil}
use Rattle.ff_headers.specs.Changes.{with_change_made}
use Rattle.ff_headers.specs.Objects.{FlowObjects}
use Rattle.ff_headers.specs.Shapes.{shape_fault}
use Rattle.ff_headers.specs.declared.change.Change.TheVariants.{PutClassifier}
use Rattle.admin_wire.specs.Codes.{classifier_type}
use Rattle.admin_wire.specs.declared.command.ObjData.TheVariants.{Classifier}
use Rattle.admin_wire.specs.declared.command.RawList.TheVariants as raw_list
use Rattle.cap_table.specs.Caps.{CapsParts, are_supported}
use Rattle.ntuple_compile.specs.Compiled.{SelectorList, create_classifier, create_head}
use Rattle.ntuple_compile.proofs.LastEntries.{AreBelow, below_next, not_held, put_last}
use Rattle.ntuple_compile.proofs.Reaching.{Creates, Reaches}

-- a shape is good, and the device's capability has its selectors
pub record IsOffered (caps : CapsParts) (shape : SelectorList) : Type 0 where
  pub good : shape_fault shape ≡ None
  pub supported : are_supported caps.limits.selectors caps.selectors shape ≡ true

-- groups and classifiers, and no rule
abbrev pub with_classifiers : List (ℕ × ℕ) → List (ℕ × SelectorList) → FlowObjects
with_classifiers groups classifiers = record { groups = groups; classifiers = classifiers; rules = [] }

module _ (caps : CapsParts) (groups : List (ℕ × ℕ)) where
  -- one more classifier
  classifier_put : (done : List (ℕ × SelectorList)) (id : ℕ) (shape : SelectorList) → AreBelow id done → length done < caps.limits.classifiers → IsOffered caps shape → Creates caps (with_classifiers groups done) (create_head classifier_type id) (Classifier (raw_list.Good (record { items = shape }))) (with_classifiers groups (done ++ (id, shape) ∷ []))
  unfolding with_change_made
  classifier_put done id shape below room offered = record {
    clear = record {
      no_flags = refl;
      known = refl;
      own_opcodes = refl;
      in_time = refl;
      settable = refl;
      new = ap is_some (not_held done id below);
      room = lt-leb caps.limits.classifiers (length done) room;
      held = refl;
      unneeded = refl;
      content = (refl, (ap is_some offered.good, (ap not offered.supported, tt)));
    };
    change = PutClassifier id shape;
    puts = refl;
    leaves = ap (with_classifiers groups) (put_last done id shape below);
  }

  -- all classifiers, behind those that are there
  pub classifiers_put : (done : List (ℕ × SelectorList)) (from : ℕ) (shapes : List SelectorList) → AreBelow from done → length done ≡ from → from + length shapes ≤ caps.limits.classifiers → AllByRecursion (IsOffered caps) shapes → Reaches caps (with_classifiers groups done) (map create_classifier (enumerate_from from shapes)) (with_classifiers groups (done ++ enumerate_from from shapes))
  classifiers_put done from [] below long room offered = ap (with_classifiers groups) (sym (append-nil done))
  classifiers_put done from (shape ∷ shapes) below long room offered =
      let last : List (ℕ × SelectorList) = (from, shape) ∷ [] in
      let one = classifier_put done from shape below (omega (arith, long, room)) offered.0 in
      let longer : length (done ++ last) ≡ from + 1 = omega (arith, length-append done last, long) in
      let rest = classifiers_put (done ++ last) (from + 1) shapes (below_next done from shape below) longer (omega (arith, room)) offered.1 in
      let joined_number : (done ++ last) ++ enumerate_from (from + 1) shapes ≡ done ++ enumerate_from from (shape ∷ shapes) = append_assoc done last (enumerate_from (from + 1) shapes) in
      (with_classifiers groups (done ++ last), one, subst (λ (classifiers : List (ℕ × SelectorList)). Reaches caps (with_classifiers groups (done ++ last)) (map create_classifier (enumerate_from (from + 1) shapes)) (with_classifiers groups classifiers)) joined_number rest)
