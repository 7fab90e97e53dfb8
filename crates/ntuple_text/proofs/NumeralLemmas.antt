-- Hexadecimal digits are a numeral that std reads.
use Rattle.std.proofs.Common.{◌≡◌, ◌≢◌, ℕ, ◌<◌, ◌≤◌, ◌^◌, ◌&&◌, ltb, ⊎_elim, true, List, [], ◌∷◌, length, get_or, sym, ap, ◌∙◌, arith, eqb, Some, None, Ok, Err, Result, not, zero, suc, subst}
use Rattle.std.specs.Char.{is_ascii_hexdigit}
use Rattle.std.specs.List.{list_all}
use Rattle.std.specs.Str.{IsAscii}
use Rattle.std.specs.Str.Parse.{AllDigits, IsNumeral, ParsesUnsigned, digits_value, without_leading_plus}
use Rattle.std.specs.Option.{SomeIff}
use Rattle.std.specs.Result.{OkIff, result_ok}
use Rattle.std.proofs.lemmas.Str.Parse.{without_leading_plus_none}
use Rattle.std.proofs.lemmas.Bool.{and_parts, false≢true, cond-true, cond-false, cases_Bool}
use Rattle.std.proofs.lemmas.Bool.Decides.{nat_tests}
use Rattle.std.proofs.lemmas.Int.Digits.{digits_value-lt}
use Rattle.std.proofs.Math.Nat.{pow-le-pow_right}
use Rattle.vnff_base.proofs.HexLemmas.{digit_value-hex}
use Rattle.ntuple_text.specs.Numerals.{are_hex_digits, hex_number}

hex_below : (byte : ℕ) → is_ascii_hexdigit byte ≡ true → byte < 128
hex_below byte h = grind (arith, nat_tests)

hex_no_plus : (byte : ℕ) → is_ascii_hexdigit byte ≡ true → byte ≢ 43
hex_no_plus byte h e = grind (arith, nat_tests)

all_digits : (digits : List ℕ) → list_all is_ascii_hexdigit digits ≡ true → AllDigits 16 digits
all_digits [] h = tt
all_digits (digit ∷ digits) h = let parts = and_parts _ _ h in (digit_value-hex digit parts.0, all_digits digits parts.1)

all_ascii : (digits : List ℕ) → list_all is_ascii_hexdigit digits ≡ true → (i : ℕ) → get_or digits i 0 < 128
all_ascii [] h i = omega arith
all_ascii (digit ∷ digits) h zero = hex_below digit (and_parts _ _ h).0
all_ascii (digit ∷ digits) h (suc i) = all_ascii digits (and_parts _ _ h).1 i

no_plus : (digits : List ℕ) → list_all is_ascii_hexdigit digits ≡ true → get_or digits 0 0 ≢ 43
no_plus [] h e = omega arith
no_plus (digit ∷ digits) h e = hex_no_plus digit (and_parts _ _ h).0 e

some_digit : (digits : List ℕ) → not (eqb (length digits) 0) ≡ true → 0 < length digits
some_digit [] h = absurd (false≢true h)
some_digit (digit ∷ digits) h = omega arith

pub hex_digits-numeral : (digits : List ℕ) → are_hex_digits digits ≡ true → IsNumeral 16 digits
hex_digits-numeral digits h = let parts = and_parts _ _ h in (some_digit digits parts.0, all_digits digits parts.1)

pub hex_digits-ascii : (digits : List ℕ) → are_hex_digits digits ≡ true → IsAscii digits
hex_digits-ascii digits h = all_ascii digits (and_parts _ _ h).1

pub hex_digits-no_plus : (digits : List ℕ) → are_hex_digits digits ≡ true → get_or digits 0 0 ≢ 43
hex_digits-no_plus digits h = no_plus digits (and_parts _ _ h).1

-- what std reads of hexadecimal digits
parsed : {E : Type 0} (plain digits : List ℕ) (r : Result ℕ E) → plain ≡ digits → IsNumeral 16 digits → OkIff r (IsNumeral 16 plain × (digits_value 16 plain < 2 ^ 64)) (digits_value 16 plain) → SomeIff (result_ok r) (digits_value 16 digits < 2 ^ 64) (digits_value 16 digits)
parsed plain digits (Ok n) same numeral h = let e = ap (digits_value 16) same in (omega (arith, h.0.1), omega (arith, h.1))
parsed plain digits (Err e) same numeral h = λ small. h (let P : List ℕ → Type 0 = λ ds. IsNumeral 16 ds × (digits_value 16 ds < 2 ^ 64) in subst P (sym same) (numeral, small))

pub hex_digits-parsed : {E : Type 0} (text digits : List ℕ) (r : Result ℕ E) → text ≡ digits → are_hex_digits digits ≡ true → ParsesUnsigned 64 16 text r → SomeIff (result_ok r) (digits_value 16 digits < 2 ^ 64) (digits_value 16 digits)
hex_digits-parsed text digits r same hex h =
    let plain = ap without_leading_plus same ∙ without_leading_plus_none digits (hex_digits-no_plus digits hex) in
    parsed (without_leading_plus text) digits r plain (hex_digits-numeral digits hex) h

-- a number of at most so many digits
pub hex_number-small : (most : ℕ) (digits : List ℕ) (n : ℕ) → hex_number digits ≡ Some n → length digits ≤ most → n < 16 ^ most
unfolding hex_number
hex_number-small most digits n read short =
    let test = are_hex_digits digits && ltb (digits_value 16 digits) (2 ^ 64) in
    ⊎_elim (λ yes. let value : digits_value 16 digits ≡ n = cc (cond-true test (Some (digits_value 16 digits)) None yes) in
    let hex : are_hex_digits digits ≡ true = (and_parts _ _ yes).0 in
    let power : 16 ^ length digits ≤ 16 ^ most = pow-le-pow_right {n = 16} (omega arith) short in
    omega (arith, value, power, digits_value-lt 16 digits (hex_digits-numeral digits hex).1))
    (λ no. absurd (cc (cond-false test (Some (digits_value 16 digits)) None no)))
    (cases_Bool test)
