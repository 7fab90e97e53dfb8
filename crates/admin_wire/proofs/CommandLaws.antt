-- A command reads as it exactly where it is laid out.
use Rattle.std.proofs.Common.{◌≡◌, ℕ, ◌∙◌, sym, ap, subst, refl, arith, List, ◌++◌, length, drop, Some, Result, Ok, Err, IfOk}
use Rattle.std.proofs.lemmas.Bool.{le-ltb}
use Rattle.byte_numbers.specs.Numbers.{le16_at, le64_at}
use Rattle.byte_numbers.proofs.NumberLaws.{AreBytes, AreBytes-drop}
use Rattle.admin_wire.specs.declared.command.CapData.{CapData}
use Rattle.admin_wire.specs.declared.command.Command.{Command}
use Rattle.admin_wire.specs.declared.command.Command.TheVariants.{ListQuery, ListUse, CapIds, CapGet, CapSet, Create, Modify, Query, Destroy}
use Rattle.admin_wire.specs.declared.command.ObjData.{ObjData}
use Rattle.admin_wire.specs.declared.command.ObjHead.{ObjHead}
use Rattle.admin_wire.specs.declared.error.WireErr.{WireErr}
use Rattle.admin_wire.specs.declared.opcode.Opcode.{Opcode}
use Rattle.admin_wire.specs.declared.opcode.Opcode.TheVariants as opcodes
use Rattle.admin_wire.specs.Capabilities.{cap_of}
use Rattle.admin_wire.specs.Codes.{header_size}
use Rattle.admin_wire.specs.Fields.{Field, Spells}
use Rattle.admin_wire.specs.Headers.{opcode_of, command_header}
use Rattle.admin_wire.specs.LaidOut.{HasLayout, IsDataLayout, IsLaidOut}
use Rattle.admin_wire.specs.Layouts.{opcode_for, header_fields, head_fields, bare_head_fields, object_fields, cap_head_fields, cap_id, data_fields}
use Rattle.admin_wire.specs.Objects.{head_of, bare_head_of, head_and_object}
use Rattle.admin_wire.specs.Opcodes.{code_of}
use Rattle.admin_wire.specs.Wire.{list_use_of, cap_get_of, query_of, destroy_of, data_of, command_of}
use Rattle.admin_wire.proofs.CapabilityLaws.{cap_head_spelled, cap_spelled, cap_head_back, cap_back}
use Rattle.admin_wire.proofs.HeaderLaws.{header_spelled, sound_header, header_back}
use Rattle.admin_wire.proofs.ObjectLaws.{head_spelled, bare_head_spelled, head_and_object_spelled, head_back, bare_head_back, head_and_object_back}
use Rattle.admin_wire.proofs.Reading.{long_enough, after_step, Begins}
use Rattle.admin_wire.proofs.Spelled.{Spelled, spell_end, spell_64, Spells-join}
use Rattle.admin_wire.proofs.Walk.{Left-start, number_64, ended, Spells-append}

-- ---- what is laid out reads so

list_use_spelled : (bitmap : ℕ) (bytes rest : List ℕ) → Spells bytes (data_fields (ListUse bitmap)) rest
    → list_use_of bytes ≡ Ok (ListUse bitmap)
unfolding list_use_of
list_use_spelled bitmap bytes rest s =
    let read = number_64 (Left-start bytes (data_fields (ListUse bitmap)) rest s) in
    let here = ended read.1 in
    rw (le-ltb (length bytes) 8 (omega arith), read.0) refl

cap_get_spelled : (id : ℕ) (bytes rest : List ℕ) → Spells bytes (cap_head_fields id) rest
    → cap_get_of bytes ≡ Ok (CapGet id)
unfolding cap_get_of
cap_get_spelled id bytes rest s =
    let read = cap_head_spelled id bytes rest s in
    rw (le-ltb (length bytes) 8 (omega (arith, read.1.count)), read.0) refl

query_spelled : (head : ObjHead) (bytes rest : List ℕ) → Spells bytes (head_fields head) rest
    → query_of bytes ≡ Ok (Query head)
unfolding query_of
query_spelled head bytes rest s =
    let read = head_spelled head bytes rest s in
    rw (le-ltb (length bytes) 16 (omega (arith, read.1.count)), read.0) refl

destroy_spelled : (head : ObjHead) (bytes rest : List ℕ) → head.flags ≡ 0 → Spells bytes (bare_head_fields head) rest
    → destroy_of bytes ≡ Ok (Destroy head)
unfolding destroy_of
destroy_spelled head bytes rest none s =
    let read = bare_head_spelled head bytes rest none s in
    rw (le-ltb (length bytes) 8 (omega (arith, read.1.count)), read.0) refl

data_spelled : (command : Command) (fields : List Field) (bytes rest : List ℕ) → HasLayout command
    → IsDataLayout command fields
    → Spells bytes fields rest → data_of (opcode_for command) bytes ≡ Ok command
unfolding data_of
data_spelled ListQuery fields bytes rest has is s = refl
data_spelled (ListUse bitmap) fields bytes rest has is s =
    list_use_spelled bitmap bytes rest (subst (λ (f : List Field). Spells bytes f rest) is s)
data_spelled CapIds fields bytes rest has is s = refl
data_spelled (CapGet id) fields bytes rest has is s = cap_get_spelled id bytes rest (subst (λ (f : List Field). Spells bytes f rest) is s)
data_spelled (CapSet cap) fields bytes rest has is s =
    rw (cap_spelled cap is.0 bytes rest has is.1 (subst (λ (f : List Field). Spells bytes f rest) is.2 s)) refl
data_spelled (Create head object) fields bytes rest has is s =
    rw (head_and_object_spelled head object bytes rest has (subst (λ (f : List Field). Spells bytes f rest) is s)) refl
data_spelled (Modify head object) fields bytes rest has is s =
    rw (head_and_object_spelled head object bytes rest has (subst (λ (f : List Field). Spells bytes f rest) is s)) refl
data_spelled (Query head) fields bytes rest has is s = query_spelled head bytes rest (subst (λ (f : List Field). Spells bytes f rest) is s)
data_spelled (Destroy head) fields bytes rest has is s =
    destroy_spelled head bytes rest has (subst (λ (f : List Field). Spells bytes f rest) is s)

-- what is laid out as a command reads as that command
pub command_laid_out : (bytes : List ℕ) (command : Command) → HasLayout command → IsLaidOut bytes command
    → command_of bytes ≡ Ok command
unfolding command_of
command_laid_out bytes command has laid_out =
    let header = header_fields (opcode_for command) in
    let parts = Spells-append bytes header laid_out.0 laid_out.1 laid_out.3 in
    let read = header_spelled (opcode_for command) bytes parts.0 parts.1 in
    rw (read.0, read.1) (data_spelled command laid_out.0 parts.0 laid_out.1 has laid_out.2 parts.2)

-- ---- what reads so is laid out

list_use_back : (bitmap : ℕ) (bytes : List ℕ) → AreBytes bytes → list_use_of bytes ≡ Ok (ListUse bitmap)
    → Begins bytes (data_fields (ListUse bitmap))
unfolding list_use_of
list_use_back bitmap bytes all h =
    let whole = long_enough (length bytes) 8 _ _ (ListUse bitmap) h in
    let is : le64_at bytes 0 ≡ bitmap = cc whole.1 in
    let read : Spelled bytes 0 (data_fields (ListUse bitmap)) (drop 8 bytes) = spell_64 all whole.0 is spell_end in
    (drop 8 bytes, read.spells)

cap_get_back : (id : ℕ) (bytes : List ℕ) → AreBytes bytes → cap_get_of bytes ≡ Ok (CapGet id)
    → Begins bytes (cap_head_fields id)
unfolding cap_get_of
cap_get_back id bytes all h =
    let whole = long_enough (length bytes) 8 _ _ (CapGet id) h in
    let is : le16_at bytes 0 ≡ id = cc whole.1 in
    (drop 8 bytes, subst (λ n. Spells bytes (cap_head_fields n) (drop 8 bytes)) is (cap_head_back bytes all whole.0))

query_back : (head : ObjHead) (bytes : List ℕ) → AreBytes bytes → query_of bytes ≡ Ok (Query head)
    → Begins bytes (head_fields head)
unfolding query_of
query_back head bytes all h =
    let whole = long_enough (length bytes) 16 _ _ (Query head) h in
    let is : head_of bytes ≡ head = cc whole.1 in
    (drop 16 bytes, subst (λ (x : ObjHead). Spells bytes (head_fields x) (drop 16 bytes)) is (head_back bytes all whole.0))

destroy_back : (head : ObjHead) (bytes : List ℕ) → AreBytes bytes → destroy_of bytes ≡ Ok (Destroy head)
    → Begins bytes (bare_head_fields head)
unfolding destroy_of
destroy_back head bytes all h =
    let whole = long_enough (length bytes) 8 _ _ (Destroy head) h in
    let is : bare_head_of bytes ≡ head = cc whole.1 in
    (drop 8 bytes, subst (λ (x : ObjHead). Spells bytes (bare_head_fields x) (drop 8 bytes)) is (bare_head_back bytes all whole.0))

-- the opcode whose data is read is the command's
same_opcode : (read command : Command) → ◌≡◌ {A = Result Command WireErr} (Ok read) (Ok command)
    → opcode_for command ≡ opcode_for read
same_opcode read command h = let is : read ≡ command = cc h in ap opcode_for (sym is)

opcode_back : (opcode : Opcode) (bytes : List ℕ) (command : Command) → data_of opcode bytes ≡ Ok command
    → opcode_for command ≡ opcode
unfolding data_of list_use_of cap_get_of query_of destroy_of
opcode_back opcodes.ListQuery bytes command h = same_opcode ListQuery command h
opcode_back opcodes.ListUse bytes command h = same_opcode _ command (long_enough (length bytes) 8 _ _ command h).1
opcode_back opcodes.CapIds bytes command h = same_opcode CapIds command h
opcode_back opcodes.CapGet bytes command h = same_opcode _ command (long_enough (length bytes) 8 _ _ command h).1
opcode_back opcodes.CapSet bytes command h = same_opcode _ command (after_step (cap_of bytes) _ command h).2
opcode_back opcodes.Create bytes command h = same_opcode _ command (after_step (head_and_object bytes) _ command h).2
opcode_back opcodes.Modify bytes command h = same_opcode _ command (after_step (head_and_object bytes) _ command h).2
opcode_back opcodes.Query bytes command h = same_opcode _ command (long_enough (length bytes) 16 _ _ command h).1
opcode_back opcodes.Destroy bytes command h = same_opcode _ command (long_enough (length bytes) 8 _ _ command h).1

-- the parts of a create, and of a modify
same_parts : {x head : ObjHead} {y object : ObjData} → x ≡ head → y ≡ object → ◌≡◌ {A = ObjHead × ObjData} (x, y) (head, object)
same_parts p q = cc

created : (parts : ObjHead × ObjData) (head : ObjHead) (object : ObjData) → Create parts.0 parts.1 ≡ Create head object
    → ◌≡◌ {A = ObjHead × ObjData} parts (head, object)
created parts head object h = same_parts (cc h) (cc h)

modified : (parts : ObjHead × ObjData) (head : ObjHead) (object : ObjData) → Modify parts.0 parts.1 ≡ Modify head object
    → ◌≡◌ {A = ObjHead × ObjData} parts (head, object)
modified parts head object h = same_parts (cc h) (cc h)

data_back : (command : Command) (bytes : List ℕ) → AreBytes bytes → HasLayout command
    → data_of (opcode_for command) bytes ≡ Ok command
    → (fields : List Field) × IsDataLayout command fields × Begins bytes fields
unfolding data_of
data_back ListQuery bytes all has h = (data_fields ListQuery, refl, (bytes, refl))
data_back (ListUse bitmap) bytes all has h = (data_fields (ListUse bitmap), refl, list_use_back bitmap bytes all h)
data_back CapIds bytes all has h = (data_fields CapIds, refl, (bytes, refl))
data_back (CapGet id) bytes all has h = (cap_head_fields id, refl, cap_get_back id bytes all h)
data_back (CapSet cap) bytes all has h =
    let step = after_step (cap_of bytes) _ (CapSet cap) h in
    let is : step.0 ≡ cap = cc step.2 in
    let read = cap_back cap bytes all has (step.1 ∙ ap (λ (c : CapData). Ok c) is) in
    (cap_head_fields (cap_id cap) ++ read.0, (read.0, read.1, refl), read.2)
data_back (Create head object) bytes all has h =
    let step = after_step (head_and_object bytes) _ (Create head object) h in
    let read = step.1 ∙ ap (λ (p : ObjHead × ObjData). Ok p) (created step.0 head object (cc step.2)) in
    (head_fields head ++ object_fields object, refl, head_and_object_back head object bytes all has read)
data_back (Modify head object) bytes all has h =
    let step = after_step (head_and_object bytes) _ (Modify head object) h in
    let read = step.1 ∙ ap (λ (p : ObjHead × ObjData). Ok p) (modified step.0 head object (cc step.2)) in
    (head_fields head ++ object_fields object, refl, head_and_object_back head object bytes all has read)
data_back (Query head) bytes all has h = (head_fields head, refl, query_back head bytes all h)
data_back (Destroy head) bytes all has h = (bare_head_fields head, refl, destroy_back head bytes all h)

-- what reads as a command is laid out as that command
pub laid_out_from_read : (bytes : List ℕ) (command : Command) → AreBytes bytes → HasLayout command
    → command_of bytes ≡ Ok command
    → IsLaidOut bytes command
unfolding command_of
laid_out_from_read bytes command all has h =
    let step = after_step (command_header bytes) _ command h in
    let same = opcode_back step.0 (drop header_size bytes) command step.2 in
    let read : data_of (opcode_for command) (drop header_size bytes) ≡ Ok command
    = subst (λ (o : Opcode). data_of o (drop header_size bytes) ≡ Ok command) (sym same) step.2 in
    let header = header_back bytes (opcode_for command) all (step.1 ∙ ap (λ (o : Opcode). Ok o) (sym same)) in
    let rest = drop header_size bytes in
    let more = data_back command rest (AreBytes-drop bytes header_size all) has read in
    let fields = header_fields (opcode_for command) in
    (more.0, more.2.0, more.1, Spells-join bytes fields more.0 rest more.2.0 header more.2.1)

-- a command that was read has its opcode in the header
opcode_from_read : (bytes : List ℕ) (command : Command) → command_of bytes ≡ Ok command
    → opcode_of bytes ≡ Some (code_of (opcode_for command))
unfolding command_of
opcode_from_read bytes command h =
    let step = after_step (command_header bytes) _ command h in
    let same = opcode_back step.0 (drop header_size bytes) command step.2 in
    (sound_header bytes step.0 step.1).opcode_is ∙ ap (λ (o : Opcode). Some (code_of o)) (sym same)

pub opcode_if_read : (bytes : List ℕ) (read : Result Command WireErr) → read ≡ command_of bytes
    → IfOk read (λ command. opcode_of bytes ≡ Some (code_of (opcode_for command)))
opcode_if_read bytes (Ok command) is = opcode_from_read bytes command (sym is)
opcode_if_read bytes (Err fault) is = tt
