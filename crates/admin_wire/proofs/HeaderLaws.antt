-- A header is sound exactly where it is laid out.
use Rattle.std.proofs.Common.{◌≡◌, ℕ, ◌<◌, ◌≤◌, ◌∙◌, ap, refl, arith, cond, eqb, ltb, List, length, drop, Some, None, Ok, ⊎_elim}
use Rattle.std.specs.Option.{ok_or}
use Rattle.std.proofs.lemmas.Bool.{eqb-true, cases_lt, lt-ltb, le-ltb}
use Rattle.byte_numbers.specs.Numbers.{le16_at, le64_at}
use Rattle.byte_numbers.proofs.NumberLaws.{AreBytes}
use Rattle.admin_wire.specs.declared.error.WireErr.TheVariants as faults
use Rattle.admin_wire.specs.declared.opcode.Opcode.{Opcode}
use Rattle.admin_wire.specs.declared.opcode.Opcode.TheVariants.{ListQuery, ListUse, CapIds, CapGet, CapSet, Create, Modify, Query, Destroy}
use Rattle.admin_wire.specs.Codes.{header_size, self_group, self_member}
use Rattle.admin_wire.specs.Fields.{Spells}
use Rattle.admin_wire.specs.Headers.{opcode_of, command_header}
use Rattle.admin_wire.specs.Layouts.{header_fields}
use Rattle.admin_wire.specs.Opcodes.{code_of, opcodes, opcode_with}
use Rattle.admin_wire.proofs.Reading.{equal_numbers, after_step, ok_or_ok, find_passes}
use Rattle.admin_wire.proofs.Spelled.{Spelled, spell_end, spell_16, spell_64, spell_reserved}
use Rattle.admin_wire.proofs.Walk.{Left-start, number_16, number_64, skipped, ended}

-- ---- opcodes

pub opcode_with-code_of : (opcode : Opcode) → opcode_with (code_of opcode) ≡ Some opcode
opcode_with-code_of ListQuery = refl
opcode_with-code_of ListUse = refl
opcode_with-code_of CapIds = refl
opcode_with-code_of CapGet = refl
opcode_with-code_of CapSet = refl
opcode_with-code_of Create = refl
opcode_with-code_of Modify = refl
opcode_with-code_of Query = refl
opcode_with-code_of Destroy = refl

pub code_back : (code : ℕ) (opcode : Opcode) → opcode_with code ≡ Some opcode → code ≡ code_of opcode
code_back code opcode h = eqb-true code (code_of opcode) (find_passes (λ o. eqb code (code_of o)) opcodes opcode h)

whole_back : (m n code : ℕ) → cond (ltb m header_size) None (Some n) ≡ Some code → (header_size ≤ m) × (n ≡ code)
whole_back m n code h = ⊎_elim
    (λ (short : m < header_size). let bad : None ≡ Some code = rw (lt-ltb m header_size short) at h in absurd cc)
    (λ (whole : header_size ≤ m). let is : Some n ≡ Some code = rw (le-ltb m header_size whole) at h in (whole, cc))
    (cases_lt m header_size)

-- the opcode's number, where there is one
pub opcode_back : (bytes : List ℕ) (code : ℕ) → opcode_of bytes ≡ Some code
    → (header_size ≤ length bytes) × (le16_at bytes 0 ≡ code)
unfolding opcode_of
opcode_back bytes code h = whole_back (length bytes) (le16_at bytes 0) code h

-- ---- headers

-- what is laid out as a header is sound
pub header_spelled : (opcode : Opcode) (bytes mid : List ℕ) → Spells bytes (header_fields opcode) mid
    → (command_header bytes ≡ Ok opcode) × (drop header_size bytes ≡ mid)
unfolding command_header opcode_of
header_spelled opcode bytes mid s =
    let code = number_16 (Left-start bytes (header_fields opcode) mid s) in
    let group = number_16 code.1 in
    let member = number_64 (skipped group.1) in
    let here = ended member.1 in
    (rw (le-ltb (length bytes) header_size (omega arith), code.0, opcode_with-code_of opcode, group.0, member.0) refl, here.left)

-- what a header says that gives an opcode
pub record SoundHeader (bytes : List ℕ) (opcode : Opcode) : Type 0 where
  pub whole : header_size ≤ length bytes
  pub opcode_is : opcode_of bytes ≡ Some (code_of opcode)
  pub code : le16_at bytes 0 ≡ code_of opcode
  pub group : le16_at bytes 2 ≡ self_group
  pub member : le64_at bytes 16 ≡ self_member

pub sound_header : (bytes : List ℕ) (opcode : Opcode) → command_header bytes ≡ Ok opcode → SoundHeader bytes opcode
unfolding command_header
sound_header bytes opcode h =
    let number = after_step (ok_or (opcode_of bytes) faults.ShortHeader) _ opcode h in
    let known = after_step (ok_or (opcode_with number.0) (faults.Opcode number.0)) _ opcode number.2 in
    let there = ok_or_ok (opcode_of bytes) faults.ShortHeader number.0 number.1 in
    let here = opcode_back bytes number.0 there in
    let group = equal_numbers (le16_at bytes 2) self_group _ _ opcode known.2 in
    let member = equal_numbers (le64_at bytes 16) self_member _ _ opcode group.1 in
    let same : known.0 ≡ opcode = cc member.1 in
    let code : number.0 ≡ code_of opcode
    = code_back number.0 known.0 (ok_or_ok (opcode_with number.0) (faults.Opcode number.0) known.0 known.1) ∙ ap code_of same in
    record { whole = here.0; opcode_is = there ∙ ap Some code; code = here.1 ∙ code; group = group.0; member = member.0 }

-- a sound header is laid out
pub header_back : (bytes : List ℕ) (opcode : Opcode) → AreBytes bytes → command_header bytes ≡ Ok opcode
    → Spells bytes (header_fields opcode) (drop header_size bytes)
header_back bytes opcode all h =
    let sound = sound_header bytes opcode h in
    let read : Spelled bytes 0 (header_fields opcode) (drop header_size bytes)
    = spell_16 all (omega arith) sound.code (spell_16 all (omega arith) sound.group
    (spell_reserved (omega arith) (spell_64 all (omega arith) sound.member spell_end))) in
    read.spells
