-- The commands of a table are accepted by a device that started ready, and what they leave acts as the table.
use Rattle.std.proofs.Common.{◌≡◌, ℕ, suc, ◌+◌, ◌<◌, List, [], ◌∷◌, map, length, get_or, Option, Some, None, Ok, Err, refl, sym, ap, ◌∙◌, arith, subst}
use Rattle.std.specs.Prelude.{IfSome, filter_map}
use Rattle.std.specs.List.{AllByRecursion, enumerate_from}
use Rattle.std.specs.Int.{div_ceil}
use Rattle.std.specs.Option.{option_map_or}
use Rattle.byte_numbers.specs.Bytes.{IsBytes}
use Rattle.ff_headers.specs.Frames.{HeaderBytes, headers_of}
use Rattle.ff_headers.specs.Objects.{FlowObjects, no_objects}
use Rattle.ff_headers.specs.Places.{action_of, first_rule}
use Rattle.ff_headers.specs.Shapes.{shape_fault}
use Rattle.ff_headers.specs.declared.limits.Limits.{Limits}
use Rattle.admin_wire.specs.declared.command.Command.{Command}
use Rattle.cap_table.specs.Caps.{CapsParts}
use Rattle.cap_table.specs.States.{start_state}
use Rattle.cap_table.specs.Steps.{state_after}
use Rattle.cap_table.specs.declared.start.Start.TheVariants.{Ready}
use Rattle.ntuple_text.specs.Spellable.{IsActionOf, IsSpellable, IsTable}
use Rattle.ntuple_text.specs.TableMaps.{TableMap}
use Rattle.ntuple_text.specs.declared.spec.Flow.{Flow}
use Rattle.ntuple_text.specs.declared.spec.Flow.TheVariants.{Ether, Ip4, Tcp4, Udp4, Ip6, Tcp6, Udp6}
use Rattle.ntuple_text.specs.declared.spec.Spec.{Spec}
use Rattle.ntuple_compile.specs.Acceptance.{AreAccepted, ActAs, AreObeyed, AreSent, SentCommand}
use Rattle.ntuple_compile.specs.Compiled.{compile_fault, compiled, compiled_specs, create_classifier, create_group, create_rule, creates_of, objects_of, rules_per_group, shapes_of}
use Rattle.ntuple_compile.specs.Selected.{mask_for, selector_of_mask, selectors_of}
use Rattle.ntuple_compile.specs.SpecFits.{kinds_of, specs_action, specs_of}
use Rattle.ntuple_compile.specs.declared.error.CompileErr.{CompileErr}
use Rattle.ntuple_compile.proofs.ActionLemmas.{objects_act_as_specs}
use Rattle.ntuple_compile.proofs.EachElement.{each_more}
use Rattle.ntuple_compile.proofs.NoFaults.{HasRoom, IsSupported, groups_within, room_if_no_fault, some_in_group}
use Rattle.ntuple_compile.proofs.PutClassifiers.{IsOffered, classifiers_put, with_classifiers}
use Rattle.ntuple_compile.proofs.PutGroups.{groups_from, groups_put, with_groups}
use Rattle.ntuple_compile.proofs.PutRules.{rules_put, with_rules}
use Rattle.ntuple_compile.proofs.Reaching.{Reaches, reaches_both, run_obeyed}
use Rattle.ntuple_compile.proofs.RuleOrder.{group_of_rule, rules_from}
use Rattle.ntuple_compile.proofs.ShapeNumbers.{classifiers_found, once_all}

-- ---- the classifiers are offered

good_list : (spec : Spec) (flow : Flow) → shape_fault (map (λ kind. selector_of_mask kind (mask_for spec kind)) (kinds_of flow)) ≡ None
unfolding shape_fault
good_list spec Ether = refl
good_list spec Ip4 = refl
good_list spec Tcp4 = refl
good_list spec Udp4 = refl
good_list spec Ip6 = refl
good_list spec Tcp6 = refl
good_list spec Udp6 = refl

-- the selectors of a spec have good shape
good_selectors : (spec : Spec) → shape_fault (selectors_of spec) ≡ None
unfolding selectors_of
good_selectors spec = good_list spec spec.flow

all_offered : (caps : CapsParts) (specs : List Spec) → AllByRecursion (IsSupported caps) specs → AllByRecursion (IsOffered caps) (map selectors_of specs)
all_offered caps [] supported = tt
all_offered caps (spec ∷ specs) supported =
    (record { good = good_selectors spec; supported = supported.0 }, all_offered caps specs supported.1)

-- ---- the run

-- the groups of so many rules
abbrev group_count : Limits → List Spec → ℕ
group_count limits specs = div_ceil (length specs) (rules_per_group limits)

-- the objects so far, and the rules behind them
abbrev holding : Limits → List Spec → FlowObjects
holding limits specs = with_classifiers (groups_from 0 (group_count limits specs)) (enumerate_from 0 (shapes_of specs))

rules_reached : (caps : CapsParts) (specs : List Spec) → HasRoom caps specs → AllByRecursion (IsSpellable caps.pairs) specs → Reaches caps (holding caps.limits specs) (map create_rule (rules_from (rules_per_group caps.limits) (shapes_of specs) 0 specs)) (with_rules (groups_from 0 (group_count caps.limits specs)) (enumerate_from 0 (shapes_of specs)) (rules_from (rules_per_group caps.limits) (shapes_of specs) 0 specs))
rules_reached caps [] room spellable = refl
rules_reached caps (spec ∷ specs) room spellable =
    let all : List Spec = spec ∷ specs in
    let size = rules_per_group caps.limits in
    let some = some_in_group caps all room (omega arith) in
    let grouped = λ (k : ℕ) (inside : k < 0 + length all). group_of_rule (length all) size k some (omega (arith, inside)) in
    let actions = each_more (IsSpellable caps.pairs) (λ (s : Spec). IsActionOf caps.pairs s.action) (λ s fine. fine.action) all spellable in
    rules_put caps (group_count caps.limits all) size (shapes_of all) some (omega arith) (omega arith) [] 0 all tt refl (omega (arith, room.rules)) (λ group. omega arith) grouped actions (classifiers_found all)

-- the creates lead to the objects that stand for the specs
objects_reached : (caps : CapsParts) (specs : List Spec) → HasRoom caps specs → AllByRecursion (IsSpellable caps.pairs) specs → Reaches caps no_objects (creates_of (objects_of caps.limits specs)) (objects_of caps.limits specs)
unfolding creates_of objects_of
objects_reached caps specs room spellable =
    let count = group_count caps.limits specs in
    let groups = groups_from 0 count in
    let shapes = shapes_of specs in
    let rules = rules_from (rules_per_group caps.limits) shapes 0 specs in
    let offered = once_all (IsOffered caps) (map selectors_of specs) (all_offered caps specs room.supported) in
    let first = groups_put caps [] 0 count tt tt refl (omega (arith, groups_within caps specs room)) in
    let second = classifiers_put caps groups [] 0 shapes tt refl (omega (arith, room.classifiers)) offered in
    reaches_both caps no_objects (with_groups groups) (objects_of caps.limits specs) (map create_group groups) _ first (reaches_both caps (with_groups groups) (holding caps.limits specs) (objects_of caps.limits specs) (map create_classifier (enumerate_from 0 shapes)) (map create_rule rules) second (rules_reached caps specs room spellable))

-- bytes that lay the creates out are obeyed, and leave the objects
pub creates_obeyed : (caps : CapsParts) (specs : List Spec) (sent : List SentCommand) → compile_fault caps specs ≡ None → AllByRecursion (IsSpellable caps.pairs) specs → AreSent (creates_of (objects_of caps.limits specs)) sent → AreObeyed (start_state caps Ready) sent × ((state_after (start_state caps Ready) sent).objects ≡ objects_of caps.limits specs)
creates_obeyed caps specs sent none spellable are =
    run_obeyed caps no_objects (objects_of caps.limits specs) (creates_of (objects_of caps.limits specs)) sent (objects_reached caps specs (room_if_no_fault caps specs none) spellable) are

-- ---- what they do

no_rule_acts : (limits : Limits) (headers : HeaderBytes) → action_of (objects_of limits []) headers ≡ specs_action [] headers
unfolding action_of first_rule objects_of specs_action
no_rule_acts limits headers = refl

pub objects_act_alike : (caps : CapsParts) (specs : List Spec) (frame : List ℕ) → compile_fault caps specs ≡ None → AllByRecursion (IsSpellable caps.pairs) specs → IsBytes frame → action_of (objects_of caps.limits specs) (headers_of frame) ≡ specs_action specs (headers_of frame)
objects_act_alike caps [] frame none spellable bytes = no_rule_acts caps.limits (headers_of frame)
objects_act_alike caps (spec ∷ specs) frame none spellable bytes =
    let some = some_in_group caps (spec ∷ specs) (room_if_no_fault caps (spec ∷ specs) none) (omega arith) in
    objects_act_as_specs caps.limits (spec ∷ specs) caps.pairs frame spellable some bytes

-- ---- a table

-- what every table's slots hold is spellable
spellable_slots : (pairs : ℕ) (slots : List (Option Spec)) → ((loc : ℕ) → IfSome (get_or slots loc None) (IsSpellable pairs)) → AllByRecursion (IsSpellable pairs) (filter_map (λ slot. slot) slots)
spellable_slots pairs [] each = tt
spellable_slots pairs (None ∷ slots) each = spellable_slots pairs slots (λ loc. each (suc loc))
spellable_slots pairs (Some spec ∷ slots) each = (each 0, spellable_slots pairs slots (λ loc. each (suc loc)))

spellable_specs : (table : TableMap) (pairs : ℕ) → IsTable table.pairs table.slots → table.pairs ≡ pairs → AllByRecursion (IsSpellable pairs) (specs_of table)
spellable_specs table pairs is same = subst (λ n. AllByRecursion (IsSpellable n) (specs_of table)) same (spellable_slots table.pairs table.slots each) where
  without_place : (loc : ℕ) (slot : Option Spec) → IfSome slot (λ spec. (spec.loc ≡ loc) × IsSpellable table.pairs spec) → IfSome slot (IsSpellable table.pairs)
  without_place loc None held = tt
  without_place loc (Some spec) held = held.1

  each : (loc : ℕ) → IfSome (get_or table.slots loc None) (IsSpellable table.pairs)
  each loc = without_place loc (get_or table.slots loc None) (is.spelled loc)

-- a table that isn't refused has the commands that create its objects
pub not_refused : (caps : CapsParts) (specs : List Spec) (commands : List Command) → compiled_specs caps specs ≡ Ok commands → (compile_fault caps specs ≡ None) × (creates_of (objects_of caps.limits specs) ≡ commands)
unfolding compiled_specs
not_refused caps specs commands is = by_fault (compile_fault caps specs) refl is where
  by_fault : (found : Option CompileErr) → compile_fault caps specs ≡ found → option_map_or (λ fault. Err fault) found (Ok (creates_of (objects_of caps.limits specs))) ≡ Ok commands → (compile_fault caps specs ≡ None) × (creates_of (objects_of caps.limits specs) ≡ commands)
  by_fault None none same = (none, cc)
  by_fault (Some fault) none same = absurd cc

pub commands_are_accepted : (table : TableMap) (caps : CapsParts) (commands : List Command) → IsTable table.pairs table.slots → table.pairs ≡ caps.pairs → compiled table caps ≡ Ok commands → AreAccepted caps commands
commands_are_accepted table caps commands held same is sent are =
    let fine = not_refused caps (specs_of table) commands is in
    let both = creates_obeyed caps (specs_of table) sent fine.0 (spellable_specs table caps.pairs held same) (subst (λ (c : List Command). AreSent c sent) (sym fine.1) are) in
    both.0

pub commands_act_as_table : (table : TableMap) (caps : CapsParts) (commands : List Command) → IsTable table.pairs table.slots → table.pairs ≡ caps.pairs → compiled table caps ≡ Ok commands → ActAs caps commands table
commands_act_as_table table caps commands held same is sent frame are bytes =
    let fine = not_refused caps (specs_of table) commands is in
    let spellable = spellable_specs table caps.pairs held same in
    let both = creates_obeyed caps (specs_of table) sent fine.0 spellable (subst (λ (c : List Command). AreSent c sent) (sym fine.1) are) in
    ap (λ (o : FlowObjects). action_of o (headers_of frame)) both.1 ∙ objects_act_alike caps (specs_of table) frame fine.0 spellable bytes
