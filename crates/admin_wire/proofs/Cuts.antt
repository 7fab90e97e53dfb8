-- Data that is cut reads as that fault, and data that is whole reads as something: each reader ends where it should.
use Rattle.std.proofs.Common.{◌≡◌, ℕ, zero, suc, ◌+◌, ◌-◌, ◌<◌, ◌≤◌, refl, arith, Bool, true, false, cond, eqb, ltb, List, ◌∷◌, length, get_or, take, drop, Result, Ok, Err, ⊎_elim, length-drop}
use Rattle.std.proofs.lemmas.Bool.{cases_lt, lt-ltb, le-ltb}
use Rattle.byte_numbers.specs.Numbers.{le16_at, le64_at}
use Rattle.admin_wire.specs.declared.command.CapData.TheVariants as caps
use Rattle.admin_wire.specs.declared.command.Command.TheVariants as commands
use Rattle.admin_wire.specs.declared.command.ObjData.{ObjData}
use Rattle.admin_wire.specs.declared.command.ObjData.TheVariants as objects
use Rattle.admin_wire.specs.declared.command.ObjHead.{ObjHead}
use Rattle.admin_wire.specs.declared.error.WireErr.{WireErr}
use Rattle.admin_wire.specs.declared.error.WireErr.TheVariants.{ShortData}
use Rattle.admin_wire.specs.declared.opcode.Opcode.{Opcode}
use Rattle.admin_wire.specs.declared.opcode.Opcode.TheVariants.{ListQuery, ListUse, CapIds, CapGet, CapSet, Create, Modify, Query, Destroy}
use Rattle.admin_wire.specs.Capabilities.{limits_of, selectors_data, actions_of, cap_data_of, cap_of}
use Rattle.admin_wire.specs.Codes.{limits_cap, selectors_cap, actions_cap, group_type, classifier_type, rule_type}
use Rattle.admin_wire.specs.Faults.{◌>>=◌}
use Rattle.admin_wire.specs.Lists.{entry_len, whole_entry, entries_of, raw_list, list_of}
use Rattle.admin_wire.specs.Needs.{entries_size, list_size, actions_size, rule_size, cap_size, object_size, needs}
use Rattle.admin_wire.specs.Objects.{head_of, bare_head_of, group_of, classifier_of, rule_of, object_of, head_and_object}
use Rattle.admin_wire.specs.Wire.{list_use_of, cap_get_of, query_of, destroy_of, data_of}

-- what reads so many bytes, and needs so many
pub record EndsAt {A : Type 0} (read : Result A WireErr) (have need : ℕ) : Type 0 where
  pub cut : have < need → read ≡ Err ShortData
  pub whole : need ≤ have → (x : A) × (read ≡ Ok x)

-- ---- how readers are made

always : {A : Type 0} (x : A) (have : ℕ) → EndsAt (Ok x) have 0
always x have = record { cut = λ short. absurd (omega arith); whole = λ _. (x, refl) }

-- a part of fixed size, and what is read behind it
behind : {A : Type 0} (read : Result A WireErr) (have size rest more : ℕ) → rest ≡ have - size → EndsAt read rest more
    → EndsAt (cond (ltb have size) (Err ShortData) read) have (size + more)
behind read have size rest more left ends = record {
  cut = λ short. ⊎_elim
      (λ (early : have < size). rw (lt-ltb have size early) refl)
      (λ (late : size ≤ have). rw (le-ltb have size late) (ends.cut (omega arith)))
      (cases_lt have size);
  whole = λ enough.
      let late : size ≤ have = omega arith in
      rw (le-ltb have size late) (ends.whole (omega arith));
}

fixed : {A : Type 0} (x : A) (have size : ℕ) → EndsAt (cond (ltb have size) (Err ShortData) (Ok x)) have size
fixed x have size = record {
  cut = λ short. rw (lt-ltb have size short) refl;
  whole = λ enough. (x, rw (le-ltb have size enough) refl);
}

mapped : {A B : Type 0} (read : Result A WireErr) (f : A → B) (have need : ℕ) → EndsAt read have need
    → EndsAt (read >>= λ x. Ok (f x)) have need
mapped read f have need ends = record {
  cut = λ short. rw (ends.cut short) refl;
  whole = λ enough. let there = ends.whole enough in (f there.0, rw there.1 refl);
}

chosen : {A : Type 0} (test : Bool) (read other : Result A WireErr) (have need more : ℕ) → EndsAt read have need
    → EndsAt other have more
    → EndsAt (cond test read other) have (cond test need more)
chosen true read other have need more this that = this
chosen false read other have need more this that = that

-- ---- lists, objects and capabilities

first_entry : {B : Type 0} (short : Bool) (len : ℕ) (next : ℕ → Result B WireErr)
    → (cond short (Err ShortData) (Ok len) >>= next) ≡ cond short (Err ShortData) (next len)
first_entry true len next = refl
first_entry false len next = refl

entries_end : (count : ℕ) (bytes : List ℕ) → EndsAt (entries_of count bytes) (length bytes) (entries_size count bytes)
unfolding entries_of whole_entry
entries_end zero bytes = always _ (length bytes)
entries_end (suc count) bytes =
    let len = entry_len bytes in
    rw (first_entry (ltb (length bytes) len) len (λ n. entries_of count (drop n bytes) >>= λ others. Ok (take n bytes ∷ others)))
    (behind _ (length bytes) len (length (drop len bytes)) (entries_size count (drop len bytes)) (length-drop len bytes)
    (mapped _ (λ others. take len bytes ∷ others) _ _ (entries_end count (drop len bytes))))

list_end : (bytes : List ℕ) → EndsAt (list_of bytes) (length bytes) (list_size bytes)
unfolding list_of
list_end bytes =
    behind _ (length bytes) 8 (length (drop 8 bytes)) _ (length-drop 8 bytes)
    (mapped _ raw_list _ _ (entries_end (get_or bytes 0 0) (drop 8 bytes)))

object_end : (type_code : ℕ) (bytes : List ℕ)
    → EndsAt (object_of type_code bytes) (length bytes) (object_size type_code bytes)
unfolding object_of group_of classifier_of rule_of
object_end type_code bytes =
    let group = fixed (objects.Group (le16_at bytes 0)) (length bytes) 2 in
    let classifier = mapped (list_of bytes) objects.Classifier _ _ (list_end bytes) in
    let rule = fixed _ (length bytes) (rule_size bytes) in
    let other = always objects.Other (length bytes) in
    chosen (eqb type_code group_type) _ _ _ _ _ group
    (chosen (eqb type_code classifier_type) _ _ _ _ _ classifier (chosen (eqb type_code rule_type) _ _ _ _ _ rule other))

head_and_object_end : (bytes : List ℕ)
    → EndsAt (head_and_object bytes) (length bytes) (16 + object_size (le16_at bytes 0) (drop 16 bytes))
unfolding head_and_object head_of
head_and_object_end bytes =
    behind _ (length bytes) 16 (length (drop 16 bytes)) _ (length-drop 16 bytes)
    (mapped _ (λ (object : ObjData). (head_of bytes, object)) _ _ (object_end (le16_at bytes 0) (drop 16 bytes)))

cap_end : (bytes : List ℕ) → EndsAt (cap_of bytes) (length bytes) (8 + cap_size (le16_at bytes 0) (drop 8 bytes))
unfolding cap_of cap_data_of limits_of selectors_data actions_of
cap_end bytes =
    let id = le16_at bytes 0 in
    let rest = drop 8 bytes in
    let limits = fixed _ (length rest) 18 in
    let selectors = mapped (list_of rest) caps.Selectors _ _ (list_end rest) in
    let actions = fixed _ (length rest) (actions_size rest) in
    let other = always (caps.Other id) (length rest) in
    behind _ (length bytes) 8 (length rest) _ (length-drop 8 bytes)
    (chosen (eqb id limits_cap) _ _ _ _ _ limits
    (chosen (eqb id selectors_cap) _ _ _ _ _ selectors (chosen (eqb id actions_cap) _ _ _ _ _ actions other)))

-- ---- commands

pub data_end : (opcode : Opcode) (bytes : List ℕ) → EndsAt (data_of opcode bytes) (length bytes) (needs opcode bytes)
unfolding data_of list_use_of cap_get_of query_of destroy_of
data_end ListQuery bytes = always commands.ListQuery (length bytes)
data_end ListUse bytes = fixed (commands.ListUse (le64_at bytes 0)) (length bytes) 8
data_end CapIds bytes = always commands.CapIds (length bytes)
data_end CapGet bytes = fixed (commands.CapGet (le16_at bytes 0)) (length bytes) 8
data_end CapSet bytes = mapped (cap_of bytes) commands.CapSet _ _ (cap_end bytes)
data_end Create bytes = mapped (head_and_object bytes) (λ (p : ObjHead × ObjData). commands.Create p.0 p.1) _ _ (head_and_object_end bytes)
data_end Modify bytes = mapped (head_and_object bytes) (λ (p : ObjHead × ObjData). commands.Modify p.0 p.1) _ _ (head_and_object_end bytes)
data_end Query bytes = fixed (commands.Query (head_of bytes)) (length bytes) 16
data_end Destroy bytes = fixed (commands.Destroy (bare_head_of bytes)) (length bytes) 8
