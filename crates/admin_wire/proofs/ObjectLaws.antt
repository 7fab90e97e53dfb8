-- A resource object reads as it exactly where it is laid out.
use Rattle.std.proofs.Common.{◌≡◌, ℕ, ◌+◌, ◌<◌, ◌≤◌, ◌∙◌, sym, ap, subst, refl, arith, cond, List, ◌++◌, length, get_or, take, drop, Ok, ⊎_elim}
use Rattle.std.proofs.lemmas.Bool.{cases_lt, ne_eqb, lt-leb, le-leb, le-ltb}
use Rattle.byte_numbers.specs.Numbers.{le16_at, le32_at}
use Rattle.byte_numbers.proofs.NumberLaws.{AreBytes, AreBytes-drop, piece-length}
use Rattle.admin_wire.specs.declared.command.ObjData.{ObjData}
use Rattle.admin_wire.specs.declared.command.ObjData.TheVariants.{Group, Classifier, Rule, Other}
use Rattle.admin_wire.specs.declared.command.ObjHead.{ObjHead}
use Rattle.admin_wire.specs.declared.command.RawKey.{RawKey}
use Rattle.admin_wire.specs.declared.command.RawKey.TheVariants as keys
use Rattle.admin_wire.specs.declared.command.RawList.{RawList}
use Rattle.admin_wire.specs.declared.command.RawRule.{RawRule}
use Rattle.admin_wire.specs.Fields.{Spells}
use Rattle.admin_wire.specs.LaidOut.{HasObjectLayout, IsGoodList, IsGoodKey}
use Rattle.admin_wire.specs.Layouts.{head_fields, bare_head_fields, list_fields, rule_fields, key_bytes, object_fields}
use Rattle.admin_wire.specs.Lists.{list_of}
use Rattle.admin_wire.specs.Objects.{head_of, bare_head_of, group_of, classifier_of, raw_key, rule_of, object_of, head_and_object}
use Rattle.admin_wire.proofs.ListLaws.{list_spelled, list_back}
use Rattle.admin_wire.proofs.Reading.{long_enough, after_step, Begins}
use Rattle.admin_wire.proofs.Spelled.{Spelled, spell_end, spell_8, spell_16, spell_32, spell_64, spell_reserved, spell_raw, Spells-join}
use Rattle.admin_wire.proofs.Walk.{At, Left-start, number_8, number_16, number_32, number_64, skipped, given_raw, ended, Spells-append}

-- ---- what is laid out reads so

-- a head with its flags, and without
pub head_spelled : (head : ObjHead) (bytes mid : List ℕ) → Spells bytes (head_fields head) mid
    → (head_of bytes ≡ head) × At bytes 16 mid
unfolding head_of
head_spelled head bytes mid s =
    let code = number_16 (Left-start bytes (head_fields head) mid s) in
    let id = number_32 (skipped code.1) in
    let flags = number_64 id.1 in
    (rw (code.0, id.0, flags.0) refl, ended flags.1)

pub bare_head_spelled : (head : ObjHead) (bytes mid : List ℕ) → head.flags ≡ 0
    → Spells bytes (bare_head_fields head) mid
    → (bare_head_of bytes ≡ head) × At bytes 8 mid
unfolding bare_head_of
bare_head_spelled head bytes mid none s =
    let code = number_16 (Left-start bytes (bare_head_fields head) mid s) in
    let id = number_32 (skipped code.1) in
    (rw (code.0, id.0, ← none) refl, ended id.1)

group_spelled : (priority : ℕ) (bytes rest : List ℕ) → Spells bytes (object_fields (Group priority)) rest
    → group_of bytes ≡ Ok (Group priority)
unfolding group_of
group_spelled priority bytes rest s =
    let read = number_16 (Left-start bytes (object_fields (Group priority)) rest s) in
    let here = ended read.1 in
    rw (le-ltb (length bytes) 2 (omega arith), read.0) refl

rule_spelled : (rule : RawRule) (key : List ℕ) (bytes rest : List ℕ) → rule.key ≡ keys.Good (record { items = key })
    → length key ≤ 74
    → Spells bytes (rule_fields rule key) rest → rule_of bytes ≡ Ok (Rule rule)
unfolding rule_of raw_key
rule_spelled rule key bytes rest good short s =
    let group = number_32 (Left-start bytes (rule_fields rule key) rest s) in
    let classifier = number_32 group.1 in
    let priority = number_8 classifier.1 in
    let len = number_8 priority.1 in
    let action = number_8 len.1 in
    let vq = number_16 (skipped action.1) in
    let given = given_raw (skipped vq.1) in
    let here = ended given.1 in
    rw (
      len.0,
      le-ltb (length bytes) (16 + length key) (omega arith),
      group.0,
      classifier.0,
      priority.0,
      action.0,
      vq.0,
      given.0,
      le-leb (length key) 74 short,
      ← good,
    ) refl

classifier_spelled : (list : RawList) (bytes rest : List ℕ) → IsGoodList list → Spells bytes (list_fields list) rest
    → classifier_of bytes ≡ Ok (Classifier list)
unfolding classifier_of
classifier_spelled list bytes rest good s = rw (list_spelled list bytes rest good s) refl

rule_with : (rule : RawRule) (key : RawKey) (bytes rest : List ℕ) → rule.key ≡ key → IsGoodKey key
    → Spells bytes (rule_fields rule (key_bytes key)) rest → rule_of bytes ≡ Ok (Rule rule)
rule_with rule (keys.Good key) bytes rest is good s = rule_spelled rule key.items bytes rest is good s
rule_with rule keys.Odd bytes rest is good s = absurd good

object_spelled : (type_code : ℕ) (object : ObjData) (bytes rest : List ℕ) → HasObjectLayout type_code object
    → Spells bytes (object_fields object) rest → object_of type_code bytes ≡ Ok object
unfolding object_of
object_spelled type_code (Group priority) bytes rest is s = rw is (group_spelled priority bytes rest s)
object_spelled type_code (Classifier list) bytes rest is s = rw is.0 (classifier_spelled list bytes rest is.1 s)
object_spelled type_code (Rule rule) bytes rest is s = rw is.0 (rule_with rule rule.key bytes rest refl is.1 s)
object_spelled type_code Other bytes rest is s =
    rw (ne_eqb type_code 0x200 is.0, ne_eqb type_code 0x201 is.1, ne_eqb type_code 0x202 is.2) refl

pub head_and_object_spelled : (head : ObjHead) (object : ObjData) (bytes rest : List ℕ)
    → HasObjectLayout head.type_code object
    → Spells bytes (head_fields head ++ object_fields object) rest → head_and_object bytes ≡ Ok (head, object)
unfolding head_and_object
head_and_object_spelled head object bytes rest is s =
    let parts = Spells-append bytes (head_fields head) (object_fields object) rest s in
    let read = head_spelled head bytes parts.0 parts.1 in
    rw (le-ltb (length bytes) 16 (omega (arith, read.1.count)), read.0, read.1.left, object_spelled head.type_code object parts.0 rest is parts.2) refl

-- ---- what reads so is laid out

pub head_back : (bytes : List ℕ) → AreBytes bytes → 16 ≤ length bytes
    → Spells bytes (head_fields (head_of bytes)) (drop 16 bytes)
unfolding head_of
head_back bytes all whole =
    let read : Spelled bytes 0 (head_fields (head_of bytes)) (drop 16 bytes)
    = spell_16 all (omega arith) refl (spell_reserved (omega arith) (spell_32 all (omega arith) refl
    (spell_64 all (omega arith) refl spell_end))) in
    read.spells

pub bare_head_back : (bytes : List ℕ) → AreBytes bytes → 8 ≤ length bytes
    → Spells bytes (bare_head_fields (bare_head_of bytes)) (drop 8 bytes)
unfolding bare_head_of
bare_head_back bytes all whole =
    let read : Spelled bytes 0 (bare_head_fields (bare_head_of bytes)) (drop 8 bytes)
    = spell_16 all (omega arith) refl (spell_reserved (omega arith) (spell_32 all (omega arith) refl spell_end)) in
    read.spells

group_back : (priority : ℕ) (bytes : List ℕ) → AreBytes bytes → group_of bytes ≡ Ok (Group priority)
    → Begins bytes (object_fields (Group priority))
unfolding group_of
group_back priority bytes all h =
    let whole = long_enough (length bytes) 2 _ _ (Group priority) h in
    let is : le16_at bytes 0 ≡ priority = cc whole.1 in
    let read : Spelled bytes 0 (object_fields (Group priority)) (drop 2 bytes) = spell_16 all whole.0 is spell_end in
    (drop 2 bytes, read.spells)

key_back : (key : List ℕ) → IsGoodKey (raw_key key) → key_bytes (raw_key key) ≡ key
unfolding raw_key
key_back key good = ⊎_elim
    (λ (long : 74 < length key). absurd (subst (λ b. IsGoodKey (cond b (keys.Good (record { items = key })) keys.Odd)) (lt-leb (length key) 74 long) good))
    (λ (short : length key ≤ 74). rw (le-leb (length key) 74 short) refl)
    (cases_lt 74 (length key))

rule_fields_back : (rule : RawRule) (key bytes : List ℕ) → AreBytes bytes → 16 + length key ≤ length bytes
    → le32_at bytes 0 ≡ rule.group → le32_at bytes 4 ≡ rule.classifier → get_or bytes 8 0 ≡ rule.priority
    → get_or bytes 9 0 ≡ length key
    → get_or bytes 10 0 ≡ rule.action → le16_at bytes 12 ≡ rule.vq → take (length key) (drop 16 bytes) ≡ key
    → Spells bytes (rule_fields rule key) (drop (16 + length key) bytes)
rule_fields_back rule key bytes all whole group classifier priority len action vq given =
    let read : Spelled bytes 0 (rule_fields rule key) (drop (16 + length key) bytes)
    = spell_32 all (omega arith) group (spell_32 all (omega arith) classifier (spell_8 all (omega arith) priority
    (spell_8 all (omega arith) len (spell_8 all (omega arith) action (spell_reserved (omega arith)
    (spell_16 all (omega arith) vq (spell_reserved (omega arith) (spell_raw given spell_end)))))))) in
    read.spells

rule_back : (rule : RawRule) (bytes : List ℕ) → AreBytes bytes → IsGoodKey rule.key → rule_of bytes ≡ Ok (Rule rule)
    → Begins bytes (object_fields (Rule rule))
unfolding rule_of
rule_back rule bytes all good h =
    let whole = long_enough (length bytes) (16 + get_or bytes 9 0) _ _ (Rule rule) h in
    let key = take (get_or bytes 9 0) (drop 16 bytes) in
    let len : length key ≡ get_or bytes 9 0 = piece-length bytes 16 (get_or bytes 9 0) whole.0 in
    let read : RawRule = record {
      group = le32_at bytes 0;
      classifier = le32_at bytes 4;
      priority = get_or bytes 8 0;
      action = get_or bytes 10 0;
      vq = le16_at bytes 12;
      key = raw_key key;
    } in
    let is : read ≡ rule = cc whole.1 in
    let known : IsGoodKey read.key = subst (λ (r : RawRule). IsGoodKey r.key) (sym is) good in
    let fits : 16 + length key ≤ length bytes = omega (arith, len, whole.0) in
    let spelled = rule_fields_back read key bytes all fits refl refl refl (sym len) refl refl (ap (λ n. take n (drop 16 bytes)) len) in
    subst (λ (r : RawRule). Begins bytes (object_fields (Rule r))) is (
      drop (16 + length key) bytes,
      subst (λ k. Spells bytes (rule_fields read k) (drop (16 + length key) bytes)) (sym (key_back key known)) spelled,
    )

classifier_back : (list : RawList) (bytes : List ℕ) → AreBytes bytes → IsGoodList list
    → classifier_of bytes ≡ Ok (Classifier list)
    → Begins bytes (list_fields list)
unfolding classifier_of
classifier_back list bytes all good h =
    let step = after_step (list_of bytes) _ (Classifier list) h in
    let is : step.0 ≡ list = cc step.2 in
    list_back list bytes all good (step.1 ∙ ap (λ (l : RawList). Ok l) is)

object_back : (type_code : ℕ) (object : ObjData) (bytes : List ℕ) → AreBytes bytes → HasObjectLayout type_code object
    → object_of type_code bytes ≡ Ok object → Begins bytes (object_fields object)
unfolding object_of
object_back type_code (Group priority) bytes all is h =
    group_back priority bytes all (subst (λ t. object_of t bytes ≡ Ok (Group priority)) is h)
object_back type_code (Classifier list) bytes all is h =
    classifier_back list bytes all is.1 (subst (λ t. object_of t bytes ≡ Ok (Classifier list)) is.0 h)
object_back type_code (Rule rule) bytes all is h =
    rule_back rule bytes all is.1 (subst (λ t. object_of t bytes ≡ Ok (Rule rule)) is.0 h)
object_back type_code Other bytes all is h = (bytes, refl)

pub head_and_object_back : (head : ObjHead) (object : ObjData) (bytes : List ℕ) → AreBytes bytes
    → HasObjectLayout head.type_code object
    → head_and_object bytes ≡ Ok (head, object) → Begins bytes (head_fields head ++ object_fields object)
unfolding head_and_object
head_and_object_back head object bytes all is h =
    let whole = long_enough (length bytes) 16 _ _ (head, object) h in
    let step = after_step (object_of (head_of bytes).type_code (drop 16 bytes)) _ (head, object) whole.1 in
    let same : (head_of bytes, step.0) ≡ (head, object) = cc step.2 in
    let same_head : head_of bytes ≡ head = ap (λ (p : ObjHead × ObjData). p.0) same in
    let same_object : step.0 ≡ object = ap (λ (p : ObjHead × ObjData). p.1) same in
    let layout : HasObjectLayout (head_of bytes).type_code object = subst (λ (x : ObjHead). HasObjectLayout x.type_code object) (sym same_head) is in
    let read : object_of (head_of bytes).type_code (drop 16 bytes) ≡ Ok object = step.1 ∙ ap (λ (o : ObjData). Ok o) same_object in
    let more = object_back (head_of bytes).type_code object (drop 16 bytes) (AreBytes-drop bytes 16 all) layout read in
    subst (λ (x : ObjHead). Begins bytes (head_fields x ++ object_fields object)) same_head
    (more.0, Spells-join bytes (head_fields (head_of bytes)) (object_fields object) (drop 16 bytes) more.0 (head_back bytes all whole.0) more.1)
