-- What a command that was read is: the data of an object is of its head's type, and the selectors of a list have masks of their
-- headers' sizes.
use Rattle.std.proofs.Common.{◌≡◌, ℕ, zero, suc, ◌+◌, ◌≤◌, take, drop, Bool, true, false, cond, eqb, List, [], ◌∷◌, length, get_or, Option, Some, None, Ok, refl, sym, ap, ◌∙◌, subst, arith, All, Result}
use Rattle.std.specs.List.{AllByRecursion, filter_map, cons_option}
use Rattle.std.specs.Prelude.{◌==◌}
use Rattle.std.proofs.lemmas.Bool.{eqb-true}
use Rattle.std.proofs.lemmas.List.{get_or-take, length-take-le, length-drop}
use Rattle.std.proofs.lemmas.List.Elements.{All-nil, All-cons}
use Rattle.std.proofs.lemmas.Option.{option_and_then_some, cond_some}
use Rattle.ff_headers.specs.Kinds.{kind_of_code, kind_size}
use Rattle.ff_headers.specs.SelectorParts.{SelectorParts, IsWhole, selector_with}
use Rattle.admin_wire.specs.declared.command.CapData.{CapData}
use Rattle.admin_wire.specs.declared.command.CapData.TheVariants as caps
use Rattle.admin_wire.specs.declared.command.Command.{Command}
use Rattle.admin_wire.specs.declared.command.Command.TheVariants.{CapSet, Create, Modify}
use Rattle.admin_wire.specs.declared.command.ObjData.{ObjData}
use Rattle.admin_wire.specs.declared.command.ObjData.TheVariants.{Other}
use Rattle.admin_wire.specs.declared.command.ObjHead.{ObjHead}
use Rattle.admin_wire.specs.declared.command.RawList.{RawList}
use Rattle.admin_wire.specs.declared.command.RawList.TheVariants as lists
use Rattle.byte_numbers.specs.Numbers.{le16_at}
use Rattle.admin_wire.specs.Codes.{header_size, head_size, group_size, rule_head_size, group_type, classifier_type, rule_type, limits_size, list_head_size, cap_head_size, limits_cap, selectors_cap, actions_cap}
use Rattle.admin_wire.specs.Headers.{command_header, opcode_of}
use Rattle.admin_wire.specs.Objects.{head_of, group_of, classifier_of, rule_of, object_of, head_and_object}
use Rattle.admin_wire.specs.declared.error.WireErr.{WireErr}
use Rattle.cap_table.specs.Verdicts.{type_of, is_object_type}
use Rattle.admin_wire.specs.Layouts.{opcode_for}
use Rattle.admin_wire.specs.Opcodes.{code_of, opcode_with}
use Rattle.admin_wire.specs.Capabilities.{limits_of, selectors_data, actions_of, cap_data_of, cap_of}
use Rattle.admin_wire.specs.Lists.{whole_entry, entries_of, selector_of, raw_list, list_of}
use Rattle.admin_wire.specs.Wire.{data_of, command_of}
use Rattle.admin_wire.proofs.Reading.{long_enough, after_step}
use Rattle.admin_wire.proofs.HeaderLaws.{sound_header, opcode_with-code_of}
use Rattle.admin_wire.proofs.CommandLaws.{opcode_if_read}
use Rattle.cap_table.proofs.SettingLemmas.{IsWholeList, IsWholeCap}

-- ---- one entry

-- an entry is as long as its own length byte says
abbrev IsEntry : List ℕ → Type 0
IsEntry entry = length entry ≡ 8 + get_or entry 4 0

mask_whole : (entry : List ℕ) (size : ℕ) → IsEntry entry → get_or entry 4 0 ≡ size → length (drop 8 entry) ≡ size
mask_whole entry size sized is = length-drop 8 entry ∙ omega (arith, sized, is)

selector_whole : (entry : List ℕ) (s : SelectorParts) → IsEntry entry → selector_of entry ≡ Some s → IsWhole s
unfolding selector_of
selector_whole entry s sized h = option_and_then_some _ (kind_of_code (get_or entry 0 0)) s h
    (λ kind known found.
    let parts = cond_some (eqb (get_or entry 4 0) (kind_size kind)) (selector_with kind (get_or entry 1 0) (drop 8 entry)) s found in
    subst IsWhole parts.1 (mask_whole entry (kind_size kind) sized (eqb-true (get_or entry 4 0) (kind_size kind) parts.0)))

taken_entry : (bytes : List ℕ) → 8 + get_or bytes 4 0 ≤ length bytes → IsEntry (take (8 + get_or bytes 4 0) bytes)
taken_entry bytes whole =
    length-take-le (8 + get_or bytes 4 0) bytes whole ∙ ap (λ n. 8 + n) (sym (get_or-take (8 + get_or bytes 4 0) bytes 4 0 (omega arith)))

-- ---- a list of them

entries_whole : (count : ℕ) (bytes : List ℕ) (entries : List (List ℕ)) → entries_of count bytes ≡ Ok entries → AllByRecursion IsEntry entries
unfolding entries_of whole_entry
entries_whole zero bytes entries h = let none : [] ≡ entries = cc h in subst (AllByRecursion IsEntry) none tt
entries_whole (suc count) bytes entries h =
    let first = after_step (whole_entry bytes) _ entries h in
    let whole = long_enough (length bytes) (8 + get_or bytes 4 0) _ _ first.0 first.1 in
    let len : 8 + get_or bytes 4 0 ≡ first.0 = cc whole.1 in
    let others = after_step (entries_of count (drop first.0 bytes)) _ entries first.2 in
    let is : take first.0 bytes ∷ others.0 ≡ entries = cc others.2 in
    let here : IsEntry (take first.0 bytes) = subst (λ n. IsEntry (take n bytes)) len (taken_entry bytes whole.0) in
    subst (AllByRecursion IsEntry) is (here, entries_whole count (drop first.0 bytes) others.0 others.1)

one_more : (entry : List ℕ) (selectors : List SelectorParts) → IsEntry entry → All IsWhole selectors → All IsWhole (cons_option (selector_of entry) selectors)
one_more entry selectors sized all = by_selector (selector_of entry) refl where
  by_selector : (found : Option SelectorParts) → selector_of entry ≡ found → All IsWhole (cons_option found selectors)
  by_selector None is = all
  by_selector (Some s) is = All-cons IsWhole s selectors (selector_whole entry s sized is) all

selectors_whole : (entries : List (List ℕ)) → AllByRecursion IsEntry entries → All IsWhole (filter_map selector_of entries)
selectors_whole [] all = All-nil IsWhole
selectors_whole (entry ∷ entries) all = one_more entry (filter_map selector_of entries) all.0 (selectors_whole entries all.1)

raw_list_whole : (entries : List (List ℕ)) → AllByRecursion IsEntry entries → IsWholeList (raw_list entries)
unfolding raw_list
raw_list_whole entries all = by_test _ where
  by_test : (test : Bool) → IsWholeList (cond test (lists.Good (record { items = filter_map selector_of entries })) lists.Odd)
  by_test true = selectors_whole entries all
  by_test false = tt

list_whole : (bytes : List ℕ) (list : RawList) → list_of bytes ≡ Ok list → IsWholeList list
unfolding list_of
list_whole bytes list h =
    let enough = long_enough (length bytes) 8 _ _ list h in
    let step = after_step (entries_of (get_or bytes 0 0) (drop 8 bytes)) _ list enough.1 in
    let is : raw_list step.0 ≡ list = cc step.2 in
    subst IsWholeList is (raw_list_whole step.0 (entries_whole (get_or bytes 0 0) (drop 8 bytes) step.0 step.1))

-- ---- a command that was read

-- its data lies behind the header, as its own opcode lays it out
pub data_read : (bytes : List ℕ) (command : Command) → command_of bytes ≡ Ok command → data_of (opcode_for command) (drop header_size bytes) ≡ Ok command
unfolding command_of
data_read bytes command h =
    let step = after_step (command_header bytes) _ command h in
    let sound = sound_header bytes step.0 step.1 in
    let told : opcode_of bytes ≡ Some (code_of (opcode_for command)) = opcode_if_read bytes (Ok command) (sym h) in
    let codes : Some (code_of step.0) ≡ Some (code_of (opcode_for command)) = sym sound.opcode_is ∙ told in
    let code : code_of step.0 ≡ code_of (opcode_for command) = cc codes in
    let same : Some step.0 ≡ Some (opcode_for command)
    = sym (opcode_with-code_of step.0) ∙ (ap opcode_with code ∙ opcode_with-code_of (opcode_for command)) in
    let is : step.0 ≡ opcode_for command = cc same in
    subst (λ opcode. data_of opcode (drop header_size bytes) ≡ Ok command) is step.2

-- ---- an object that was read

abbrev ok : ObjData → Result ObjData WireErr
ok object = Ok object

same_type : (a b : ObjData) → ok a ≡ ok b → type_of b ≡ type_of a
same_type a b h = let is : a ≡ b = cc h in ap type_of (sym is)

group_typed : (bytes : List ℕ) (object : ObjData) → group_of bytes ≡ Ok object → type_of object ≡ group_type
unfolding group_of
group_typed bytes object h = let enough = long_enough (length bytes) group_size _ _ object h in same_type _ object enough.1

classifier_typed : (bytes : List ℕ) (object : ObjData) → classifier_of bytes ≡ Ok object → type_of object ≡ classifier_type
unfolding classifier_of
classifier_typed bytes object h = let step = after_step (list_of bytes) _ object h in same_type _ object step.2

rule_typed : (bytes : List ℕ) (object : ObjData) → rule_of bytes ≡ Ok object → type_of object ≡ rule_type
unfolding rule_of
rule_typed bytes object h = let enough = long_enough (length bytes) (rule_head_size + get_or bytes 9 0) _ _ object h in same_type _ object enough.1

object_typed : (type_code : ℕ) (bytes : List ℕ) (object : ObjData) → object_of type_code bytes ≡ Ok object → is_object_type (type_of object) ≡ true → type_of object ≡ type_code
unfolding object_of
object_typed type_code bytes object h known = by_type (type_code == group_type) (type_code == classifier_type) (type_code == rule_type) refl refl refl h where
  by_type : (b c d : Bool) → (type_code == group_type) ≡ b → (type_code == classifier_type) ≡ c → (type_code == rule_type) ≡ d → cond b (group_of bytes) (cond c (classifier_of bytes) (cond d (rule_of bytes) (Ok Other))) ≡ Ok object → type_of object ≡ type_code
  by_type true c d is other last h = group_typed bytes object h ∙ sym (eqb-true type_code group_type is)
  by_type false true d is other last h = classifier_typed bytes object h ∙ sym (eqb-true type_code classifier_type other)
  by_type false false true is other last h = rule_typed bytes object h ∙ sym (eqb-true type_code rule_type last)
  by_type false false false is other last h = let none : Other ≡ object = cc h in absurd (let unknown : is_object_type (type_of Other) ≡ true = subst (λ (o : ObjData). is_object_type (type_of o) ≡ true) (sym none) known in cc)

both_typed : (bytes : List ℕ) (parts : ObjHead × ObjData) → head_and_object bytes ≡ Ok parts → is_object_type (type_of parts.1) ≡ true → type_of parts.1 ≡ parts.0.type_code
unfolding head_and_object
both_typed bytes parts h known =
    let enough = long_enough (length bytes) head_size _ _ parts h in
    let step = after_step (object_of (head_of bytes).type_code (drop head_size bytes)) _ parts enough.1 in
    let is : (head_of bytes, step.0) ≡ parts = cc step.2 in
    let same : step.0 ≡ parts.1 = ap (λ (p : ObjHead × ObjData). p.1) is in
    let head : head_of bytes ≡ parts.0 = ap (λ (p : ObjHead × ObjData). p.0) is in
    let typed = object_typed (head_of bytes).type_code (drop head_size bytes) step.0 step.1 (subst (λ (o : ObjData). is_object_type (type_of o) ≡ true) (sym same) known) in
    ap type_of (sym same) ∙ (typed ∙ ap (λ (x : ObjHead). x.type_code) head)

-- the parts that were read are a command's, so its object is of its head's type
parts_typed : (bytes : List ℕ) (parts : ObjHead × ObjData) (head : ObjHead) (object : ObjData) → head_and_object bytes ≡ Ok parts → parts.0 ≡ head → parts.1 ≡ object → is_object_type (type_of object) ≡ true → type_of object ≡ head.type_code
parts_typed bytes parts head object read first second known =
    let typed = both_typed bytes parts read (subst (λ (o : ObjData). is_object_type (type_of o) ≡ true) (sym second) known) in
    ap type_of (sym second) ∙ (typed ∙ ap (λ (x : ObjHead). x.type_code) first)

-- the data that a create gives is of its head's type
pub created_typed : (bytes : List ℕ) (head : ObjHead) (object : ObjData) → command_of bytes ≡ Ok (Create head object) → is_object_type (type_of object) ≡ true → type_of object ≡ head.type_code
unfolding data_of
created_typed bytes head object h known =
    let step = after_step (head_and_object (drop header_size bytes)) _ _ (data_read bytes (Create head object) h) in
    let is : Create step.0.0 step.0.1 ≡ Create head object = cc step.2 in
    parts_typed (drop header_size bytes) step.0 head object step.1 (cc is) (cc is) known

-- and so is that which a modify gives
pub modified_typed : (bytes : List ℕ) (head : ObjHead) (object : ObjData) → command_of bytes ≡ Ok (Modify head object) → is_object_type (type_of object) ≡ true → type_of object ≡ head.type_code
unfolding data_of
modified_typed bytes head object h known =
    let step = after_step (head_and_object (drop header_size bytes)) _ _ (data_read bytes (Modify head object) h) in
    let is : Modify step.0.0 step.0.1 ≡ Modify head object = cc step.2 in
    parts_typed (drop header_size bytes) step.0 head object step.1 (cc is) (cc is) known

-- ---- a capability that was read

whole_limits : (bytes : List ℕ) (cap : CapData) → limits_of bytes ≡ Ok cap → IsWholeCap cap
unfolding limits_of
whole_limits bytes (caps.Limits limits) h = tt
whole_limits bytes (caps.Selectors list) h = let enough = long_enough (length bytes) limits_size _ _ _ h in let is = enough.1 in absurd cc
whole_limits bytes (caps.Actions actions) h = tt
whole_limits bytes (caps.Other id) h = tt

whole_actions : (bytes : List ℕ) (cap : CapData) → actions_of bytes ≡ Ok cap → IsWholeCap cap
unfolding actions_of
whole_actions bytes (caps.Limits limits) h = tt
whole_actions bytes (caps.Selectors list) h = let enough = long_enough (length bytes) (list_head_size + get_or bytes 0 0) _ _ _ h in let is = enough.1 in absurd cc
whole_actions bytes (caps.Actions actions) h = tt
whole_actions bytes (caps.Other id) h = tt

cap_data_whole : (id : ℕ) (bytes : List ℕ) (wanted : CapData) → cap_data_of id bytes ≡ Ok wanted → IsWholeCap wanted
unfolding cap_data_of selectors_data
cap_data_whole id bytes wanted h = by_id (id == limits_cap) (id == selectors_cap) (id == actions_cap) h where
  by_id : (b c d : Bool) → cond b (limits_of bytes) (cond c (selectors_data bytes) (cond d (actions_of bytes) (Ok (caps.Other id)))) ≡ Ok wanted → IsWholeCap wanted
  by_id true c d h = whole_limits bytes wanted h
  by_id false true d h = let step = after_step (list_of bytes) _ wanted h in let is : caps.Selectors step.0 ≡ wanted = cc step.2 in subst IsWholeCap is (list_whole bytes step.0 step.1)
  by_id false false true h = whole_actions bytes wanted h
  by_id false false false h = let is : caps.Other id ≡ wanted = cc h in subst IsWholeCap is tt

pub cap_whole : (bytes : List ℕ) (cap : CapData) → command_of bytes ≡ Ok (CapSet cap) → IsWholeCap cap
unfolding data_of cap_of
cap_whole bytes cap h =
    let step = after_step (cap_of (drop header_size bytes)) _ _ (data_read bytes (CapSet cap) h) in
    let is : step.0 ≡ cap = cc step.2 in
    let enough = long_enough (length (drop header_size bytes)) cap_head_size _ _ step.0 step.1 in
    subst IsWholeCap is (cap_data_whole (le16_at (drop header_size bytes) 0) (drop cap_head_size (drop header_size bytes)) step.0 enough.1)
