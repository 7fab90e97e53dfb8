-- Each fault is the first of the bytes exactly where its condition holds.
use Rattle.std.proofs.Common.{◌≡◌, ◌≢◌, ℕ, ◌<◌, ◌≤◌, ◌∙◌, sym, ap, subst, refl, Bool, true, false, cond, ◌||◌, not, eqb, ltb, List, [], ◌∷◌, length, drop, Option, Some, None, is_some, Result, Ok, Err, ◌⊎◌, inl, inr, ⊎_elim, Contains}
use Rattle.std.specs.Cmp.{nat_eq_equiv}
use Rattle.std.specs.List.{find, list_any}
use Rattle.std.specs.Option.{ok_or}
use Rattle.std.proofs.lemmas.Bool.{eqb-true, cases_lt, lt-ltb, le-ltb, ne_eqb}
use Rattle.std.proofs.lemmas.Bool.Decides.{eqb_tells}
use Rattle.std.proofs.lemmas.Map.Views.{list_any-from_Contains, Contains-from_any}
use Rattle.byte_numbers.specs.Numbers.{le16_at, le64_at}
use Rattle.admin_wire.specs.declared.command.Command.{Command}
use Rattle.admin_wire.specs.declared.error.WireErr.{WireErr}
use Rattle.admin_wire.specs.declared.error.WireErr.TheVariants.{ShortHeader, Opcode, Group, Member, ShortData}
use Rattle.admin_wire.specs.declared.opcode.Opcode.{Opcode as Opcodes}
use Rattle.admin_wire.specs.Codes.{header_size, self_group, self_member}
use Rattle.admin_wire.specs.Faults.{◌>>=◌}
use Rattle.admin_wire.specs.Headers.{opcode_of, command_header}
use Rattle.admin_wire.specs.Needs.{needs, IsFault, HasOpcode}
use Rattle.admin_wire.specs.Opcodes.{code_of, opcodes, opcode_codes, opcode_with}
use Rattle.admin_wire.specs.Wire.{data_of, command_of}
use Rattle.admin_wire.proofs.Cuts.{data_end}
use Rattle.admin_wire.proofs.HeaderLaws.{opcode_with-code_of, code_back, sound_header}
use Rattle.admin_wire.proofs.Reading.{ok_or_ok}

-- ---- none of the nine

found_or_any : {A : Type 0} (b : Bool) (x : A) (found : Option A) (any : Bool) → is_some found ≡ any
    → is_some (cond b (Some x) found) ≡ (b || any)
found_or_any true x found any is = refl
found_or_any false x found any is = is

is_some-find : {A : Type 0} (test : A → Bool) (xs : List A) → is_some (find test xs) ≡ list_any test xs
is_some-find test [] = refl
is_some-find test (x ∷ xs) = found_or_any (test x) x (find test xs) (list_any test xs) (is_some-find test xs)

is_none : {A : Type 0} (found : Option A) → is_some found ≡ false → found ≡ None
is_none None h = refl
is_none (Some x) h = absurd cc

not_true : (b : Bool) → (b ≡ true → ⊥) → b ≡ false
not_true true h = absurd (h refl)
not_true false h = refl

known_any : (n : ℕ) → is_some (opcode_with n) ≡ list_any (eqb n) opcode_codes
known_any n = is_some-find (λ opcode. eqb n (code_of opcode)) opcodes

none_of_nine : (n : ℕ) → opcode_with n ≡ None → ¬ Contains opcode_codes n
none_of_nine n none = λ there.
    let any : list_any (eqb n) opcode_codes ≡ true = list_any-from_Contains nat_eq_equiv n opcode_codes there in
    let nothing : Option Opcodes = None in
    let found : is_some nothing ≡ true = ap is_some (sym none) ∙ known_any n ∙ any in
    absurd cc

unknown_from_none : (n : ℕ) → (¬ Contains opcode_codes n) → opcode_with n ≡ None
unknown_from_none n out =
    is_none (opcode_with n) (known_any n ∙ not_true _ (λ any. out (Contains-from_any {eq = eqb} eqb-true n opcode_codes any)))

-- ---- from a fault to its condition

split : {A B : Type 0} (read : Result A WireErr) (next : A → Result B WireErr) (fault : WireErr)
    → (read >>= next) ≡ Err fault
    → (read ≡ Err fault) ⊎ ((x : A) × (read ≡ Ok x) × (next x ≡ Err fault))
split (Ok x) next fault h = inr (x, refl, h)
split (Err f) next fault h = let is : f ≡ fault = cc h in inl (ap Err is)

missing : {A : Type 0} (found : Option A) (first fault : WireErr) → ok_or found first ≡ Err fault
    → (found ≡ None) × (first ≡ fault)
missing None first fault h = let is : first ≡ fault = cc h in (refl, is)
missing (Some x) first fault h = absurd cc

short_back : (m n : ℕ) → cond (ltb m header_size) None (Some n) ≡ None → m < header_size
short_back m n h = ⊎_elim
    (λ (short : m < header_size). short)
    (λ (whole : header_size ≤ m). let bad : Some n ≡ None = rw (le-ltb m header_size whole) at h in absurd cc)
    (cases_lt m header_size)

no_header : (bytes : List ℕ) → opcode_of bytes ≡ None → length bytes < header_size
unfolding opcode_of
no_header bytes h = short_back (length bytes) (le16_at bytes 0) h

-- the tests behind a known opcode: the group type, and then the member id
self_fault : (bytes : List ℕ) (opcode : Opcodes) (fault : WireErr) → HasOpcode bytes opcode
    → cond (not (eqb (le16_at bytes 2) self_group)) (Err (Group (le16_at bytes 2)))
    (cond (not (eqb (le64_at bytes 16) self_member)) (Err (Member (le64_at bytes 16))) (Ok opcode)) ≡ Err fault
    → IsFault bytes fault
self_fault bytes opcode fault has h = ⊎_elim
    (λ (self : (eqb (le16_at bytes 2) self_group ≡ true) × (le16_at bytes 2 ≡ self_group)).
    ⊎_elim
    (λ (member : (eqb (le64_at bytes 16) self_member ≡ true) × (le64_at bytes 16 ≡ self_member)).
    let bad : Ok opcode ≡ Err fault = rw (self.0, member.0) at h in absurd cc)
    (λ (other : (eqb (le64_at bytes 16) self_member ≡ false) × (le64_at bytes 16 ≢ self_member)).
    let found : Err (Member (le64_at bytes 16)) ≡ Err fault = rw (self.0, other.0) at h in
    let is : Member (le64_at bytes 16) ≡ fault = cc found in
    subst (IsFault bytes) is (opcode, has, self.1, refl, other.1))
    (eqb_tells (le64_at bytes 16) self_member))
    (λ (other : (eqb (le16_at bytes 2) self_group ≡ false) × (le16_at bytes 2 ≢ self_group)).
    let found : Err (Group (le16_at bytes 2)) ≡ Err fault = rw other.0 at h in
    let is : Group (le16_at bytes 2) ≡ fault = cc found in
    subst (IsFault bytes) is (opcode, has, refl, other.1))
    (eqb_tells (le16_at bytes 2) self_group)

known_fault : (bytes : List ℕ) (code : ℕ) (fault : WireErr) → opcode_of bytes ≡ Some code
    → (ok_or (opcode_with code) (Opcode code) >>= λ opcode.
    cond (not (eqb (le16_at bytes 2) self_group)) (Err (Group (le16_at bytes 2)))
    (cond (not (eqb (le64_at bytes 16) self_member)) (Err (Member (le64_at bytes 16))) (Ok opcode))) ≡ Err fault
    → IsFault bytes fault
known_fault bytes code fault read h = ⊎_elim
    (λ (unknown : ok_or (opcode_with code) (Opcode code) ≡ Err fault).
    let none = missing (opcode_with code) (Opcode code) fault unknown in
    subst (IsFault bytes) none.1 (read, none_of_nine code none.0))
    (λ (known : (o : Opcodes) × (ok_or (opcode_with code) (Opcode code) ≡ Ok o) × _).
    let code_is = code_back code known.0 (ok_or_ok (opcode_with code) (Opcode code) known.0 known.1) in
    self_fault bytes known.0 fault (read ∙ ap Some code_is) known.2)
    (split (ok_or (opcode_with code) (Opcode code)) _ fault h)

header_fault : (bytes : List ℕ) (fault : WireErr) → command_header bytes ≡ Err fault → IsFault bytes fault
unfolding command_header
header_fault bytes fault h = ⊎_elim
    (λ (short : ok_or (opcode_of bytes) ShortHeader ≡ Err fault).
    let none = missing (opcode_of bytes) ShortHeader fault short in
    subst (IsFault bytes) none.1 (no_header bytes none.0))
    (λ (read : (code : ℕ) × (ok_or (opcode_of bytes) ShortHeader ≡ Ok code) × _).
    known_fault bytes read.0 fault (ok_or_ok (opcode_of bytes) ShortHeader read.0 read.1) read.2)
    (split (ok_or (opcode_of bytes) ShortHeader) _ fault h)

data_fault : (bytes : List ℕ) (opcode : Opcodes) (fault : WireErr) → command_header bytes ≡ Ok opcode
    → data_of opcode (drop header_size bytes) ≡ Err fault → IsFault bytes fault
data_fault bytes opcode fault header h =
    let ends = data_end opcode (drop header_size bytes) in
    let sound = sound_header bytes opcode header in
    ⊎_elim
    (λ (short : length (drop header_size bytes) < needs opcode (drop header_size bytes)).
    let found : ◌≡◌ {A = Result Command WireErr} (Err ShortData) (Err fault) = sym (ends.cut short) ∙ h in
    let is : ShortData ≡ fault = cc found in
    subst (IsFault bytes) is (opcode, sound.opcode_is, (sound.group, sound.member), short))
    (λ (enough : needs opcode (drop header_size bytes) ≤ length (drop header_size bytes)).
    let read = ends.whole enough in
    let bad : Ok read.0 ≡ Err fault = sym read.1 ∙ h in absurd cc)
    (cases_lt (length (drop header_size bytes)) (needs opcode (drop header_size bytes)))

pub fault_from_read : (bytes : List ℕ) (fault : WireErr) → command_of bytes ≡ Err fault → IsFault bytes fault
unfolding command_of
fault_from_read bytes fault h = ⊎_elim
    (λ (header : command_header bytes ≡ Err fault). header_fault bytes fault header)
    (λ (sound : (opcode : Opcodes) × (command_header bytes ≡ Ok opcode) × (data_of opcode (drop header_size bytes) ≡ Err fault)).
    data_fault bytes sound.0 fault sound.1 sound.2)
    (split (command_header bytes) (λ opcode. data_of opcode (drop header_size bytes)) fault h)

-- ---- from a condition to its fault

short_none : (bytes : List ℕ) → length bytes < header_size → opcode_of bytes ≡ None
unfolding opcode_of
short_none bytes short = rw (lt-ltb (length bytes) header_size short) refl

pub read_from_fault : (bytes : List ℕ) (fault : WireErr) → IsFault bytes fault → command_of bytes ≡ Err fault
unfolding command_of command_header
read_from_fault bytes ShortHeader is = rw (short_none bytes is) refl
read_from_fault bytes (Opcode n) is = rw (is.0, unknown_from_none n is.1) refl
read_from_fault bytes (Group n) is = rw (is.1, opcode_with-code_of is.0, is.2, ne_eqb n self_group is.3) refl
read_from_fault bytes (Member n) is = rw (is.1, opcode_with-code_of is.0, is.2, is.3, ne_eqb n self_member is.4) refl
read_from_fault bytes ShortData is =
    rw (is.1, opcode_with-code_of is.0, is.2.0, is.2.1) ((data_end is.0 (drop header_size bytes)).cut is.3)
