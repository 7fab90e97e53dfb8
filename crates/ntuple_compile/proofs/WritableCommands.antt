-- The commands of a table have bytes, and no more of them than this project's driver writes.
use Rattle.std.proofs.Common.{◌≡◌, ℕ, ◌+◌, ◌≤◌, List, [], ◌∷◌, map, length, Ok, refl, arith, subst}
use Rattle.std.specs.Prelude.{All, nat_eq}
use Rattle.std.specs.List.{AllByRecursion, IsDistinct, enumerate_from}
use Rattle.std.proofs.lemmas.List.Elements.{All-append, All-from_recursion}
use Rattle.ff_headers.specs.SelectorParts.{IsWhole}
use Rattle.ff_headers.specs.Shapes.{codes_of}
use Rattle.admin_wire.specs.declared.command.Command.{Command}
use Rattle.admin_wire.specs.LaidOut.{HasBytes, HasDistinctTypes, HasLayout}
use Rattle.admin_wire.proofs.SizeLaws.{command_fits}
use Rattle.cap_table.specs.Caps.{CapsParts}
use Rattle.ff_headers.specs.declared.kind.Kind.{Kind}
use Rattle.ntuple_text.specs.TableMaps.{TableMap}
use Rattle.ntuple_text.specs.declared.spec.Flow.{Flow}
use Rattle.ntuple_text.specs.declared.spec.Flow.TheVariants.{Ether, Ip4, Tcp4, Udp4, Ip6, Tcp6, Udp6}
use Rattle.ntuple_text.specs.declared.spec.Spec.{Spec}
use Rattle.ntuple_compile.specs.Acceptance.{IsWritable}
use Rattle.ntuple_compile.specs.Compiled.{SelectorList, compiled, create_classifier, create_group, create_rule, creates_of, objects_of, rules_per_group, shapes_of, spec_rule}
use Rattle.ntuple_compile.specs.Selected.{mask_for, selector_of_mask, selectors_of}
use Rattle.ntuple_compile.specs.SpecFits.{kinds_of, specs_of}
use Rattle.ntuple_compile.proofs.AcceptedCommands.{not_refused}
use Rattle.ntuple_compile.proofs.Bridge.{length-mask}
use Rattle.ntuple_compile.proofs.KeyLemmas.{key_short}
use Rattle.ntuple_compile.proofs.RuleOrder.{rules_from}
use Rattle.ntuple_compile.proofs.ShapeNumbers.{once_all}

writable : (command : Command) → HasBytes command → HasLayout command → HasDistinctTypes command → IsWritable command
writable command has laid_out distinct = (has, omega (arith, command_fits command laid_out distinct))

-- ---- selectors

-- a list of selectors has a layout: few of them, with masks of their headers' sizes and distinct types
record IsLaidOutList (shape : SelectorList) : Type 0 where
  pub few : length shape ≤ 5
  pub whole : All IsWhole shape
  pub distinct : IsDistinct nat_eq (codes_of shape)

each_whole : (spec : Spec) (kinds : List Kind) → AllByRecursion IsWhole (map (λ kind. selector_of_mask kind (mask_for spec kind)) kinds)
each_whole spec [] = tt
each_whole spec (kind ∷ kinds) = (length-mask spec kind, each_whole spec kinds)

few_selectors : (spec : Spec) (flow : Flow) → length (map (λ kind. selector_of_mask kind (mask_for spec kind)) (kinds_of flow)) ≤ 5
few_selectors spec Ether = omega arith
few_selectors spec Ip4 = omega arith
few_selectors spec Tcp4 = omega arith
few_selectors spec Udp4 = omega arith
few_selectors spec Ip6 = omega arith
few_selectors spec Tcp6 = omega arith
few_selectors spec Udp6 = omega arith

distinct_types : (spec : Spec) (flow : Flow) → IsDistinct nat_eq (codes_of (map (λ kind. selector_of_mask kind (mask_for spec kind)) (kinds_of flow)))
unfolding IsDistinct
distinct_types spec Ether = (tt, tt)
distinct_types spec Ip4 = (tt, tt)
distinct_types spec Tcp4 = ((refl, tt), (tt, tt))
distinct_types spec Udp4 = ((refl, tt), (tt, tt))
distinct_types spec Ip6 = (tt, tt)
distinct_types spec Tcp6 = ((refl, tt), (tt, tt))
distinct_types spec Udp6 = ((refl, tt), (tt, tt))

laid_out_selectors : (spec : Spec) → IsLaidOutList (selectors_of spec)
unfolding selectors_of
laid_out_selectors spec = record {
  few = few_selectors spec spec.flow;
  whole = All-from_recursion IsWhole _ (each_whole spec (kinds_of spec.flow));
  distinct = distinct_types spec spec.flow;
}

all_laid_out : (specs : List Spec) → AllByRecursion IsLaidOutList (map selectors_of specs)
all_laid_out [] = tt
all_laid_out (spec ∷ specs) = (laid_out_selectors spec, all_laid_out specs)

-- ---- commands

groups_writable : (groups : List (ℕ × ℕ)) → AllByRecursion IsWritable (map create_group groups)
groups_writable [] = tt
groups_writable (group ∷ groups) = (writable (create_group group) refl refl tt, groups_writable groups)

classifiers_writable : (from : ℕ) (shapes : List SelectorList) → AllByRecursion IsLaidOutList shapes → AllByRecursion IsWritable (map create_classifier (enumerate_from from shapes))
classifiers_writable from [] laid_out = tt
classifiers_writable from (shape ∷ shapes) laid_out =
    (writable (create_classifier (from, shape)) (refl, tt) (refl, (laid_out.0.few, laid_out.0.whole)) laid_out.0.distinct, classifiers_writable (from + 1) shapes laid_out.1)

rules_writable : (size : ℕ) (shapes : List SelectorList) (from : ℕ) (specs : List Spec) → AllByRecursion IsWritable (map create_rule (rules_from size shapes from specs))
rules_writable size shapes from [] = tt
rules_writable size shapes from (spec ∷ specs) =
    (writable (create_rule (from, spec_rule size shapes from spec)) (refl, tt) (refl, key_short spec) tt, rules_writable size shapes (from + 1) specs)

creates_writable : (caps : CapsParts) (specs : List Spec) → All IsWritable (creates_of (objects_of caps.limits specs))
unfolding creates_of objects_of
creates_writable caps specs =
    let groups = All-from_recursion IsWritable _ (groups_writable (objects_of caps.limits specs).groups) in
    let once = once_all IsLaidOutList (map selectors_of specs) (all_laid_out specs) in
    let classifiers = All-from_recursion IsWritable _ (classifiers_writable 0 (shapes_of specs) once) in
    let rules = All-from_recursion IsWritable _ (rules_writable (rules_per_group caps.limits) (shapes_of specs) 0 specs) in
    All-append IsWritable _ _ groups (All-append IsWritable _ _ classifiers rules)

pub commands_are_writable : (table : TableMap) (caps : CapsParts) (commands : List Command) → compiled table caps ≡ Ok commands → All IsWritable commands
commands_are_writable table caps commands is =
    subst (λ (c : List Command). All IsWritable c) (not_refused caps (specs_of table) commands is).1 (creates_writable caps (specs_of table))
