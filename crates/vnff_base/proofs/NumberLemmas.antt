-- A word spells a number exactly where the number is written so.
use Rattle.std.proofs.Common.{◌≡◌, ◌≢◌, ℕ, ◌^◌, ◌<◌, Bool, true, ◌&&◌, List, length, get_or, sym, ap, subst, ◌∙◌, arith, Some, None, Option, IfSome, IfNone, ltb, inl, inr, ⊎_elim, ◌⊎◌}
use Rattle.std.specs.Fmt.{decimal}
use Rattle.std.specs.Option.{SomeIff}
use Rattle.std.specs.Str.{bytes_eq}
use Rattle.std.specs.Str.Parse.{digits_value, AllDigits, IsNumeral}
use Rattle.std.proofs.lemmas.Bool.{cases_Bool, and_from, and_parts, lt-ltb, ltb-true, cond-true, cond-false, cases_lt}
use Rattle.std.proofs.lemmas.Fmt.{decimal_is_IsNumeral, decimal-digits_value, first_decimal, decimal_digit}
use Rattle.std.proofs.lemmas.Slice.Eq.{bytes_eq-Decides}
use Rattle.std.proofs.lemmas.Str.Parse.{IsNumeralModel, numerals_by_value, tells_digits, digit_at}
use Rattle.vnff_base.specs.Numbers.{number_of}

test_of : List ℕ → Bool
test_of word = ltb (digits_value 10 word) (2 ^ 64) && bytes_eq word (decimal (digits_value 10 word))

-- how a number is written is how it is spelled
pub number_of-decimal : (word : List ℕ) (n : ℕ) → n < 2 ^ 64 → word ≡ decimal n → number_of word ≡ Some n
unfolding number_of
number_of-decimal word n h e =
    let value : digits_value 10 word ≡ n = ap (digits_value 10) e ∙ (decimal_is_IsNumeral n h).1 in
    let same : bytes_eq word (decimal (digits_value 10 word)) ≡ true = (bytes_eq-Decides word _).1 (e ∙ ap decimal (sym value)) in
    let small : ltb (digits_value 10 word) (2 ^ 64) ≡ true = lt-ltb _ _ (rw value h) in
    cond-true _ _ _ (and_from _ _ small same) ∙ ap Some value

pub decimal-number_of : (word : List ℕ) (n : ℕ) → number_of word ≡ Some n → (word ≡ decimal n) × (n < 2 ^ 64)
unfolding number_of test_of
decimal-number_of word n h =
    let m = digits_value 10 word in
    ⊎_elim (λ yes. let small : m < 2 ^ 64 = ltb-true m (2 ^ 64) (and_parts _ _ yes).0 in
    let same : word ≡ decimal m = (bytes_eq-Decides word (decimal m)).0 (and_parts _ _ yes).1 in
    let value : m ≡ n = cc (cond-true (test_of word) (Some m) None yes) in
    (same ∙ ap decimal value, omega arith))
    (λ no. absurd (cc (cond-false (test_of word) (Some m) None no)))
    (cases_Bool (test_of word))

-- a word that is no number's spelling spells none
pub number_of-none : (word : List ℕ) → ((n : ℕ) → n < 2 ^ 64 → word ≢ decimal n) → number_of word ≡ None
unfolding number_of test_of
number_of-none word h =
    ⊎_elim (λ yes. let parts = and_parts _ _ yes in
    absurd (h (digits_value 10 word) (ltb-true _ _ parts.0) ((bytes_eq-Decides word _).0 parts.1)))
    (λ no. cond-false (test_of word) (Some (digits_value 10 word)) None no)
    (cases_Bool (test_of word))

-- the two readable laws of the number that a word spells
pub spelled : (word : List ℕ) (r : Option ℕ) → r ≡ number_of word → IfSome r (λ n. word ≡ decimal n)
spelled word None e = tt
spelled word (Some n) e = (decimal-number_of word n (sym e)).0

pub not_spelled : (word : List ℕ) (r : Option ℕ) → r ≡ number_of word → IfNone r ((n : ℕ) → n < 2 ^ 64 → word ≢ decimal n)
not_spelled word None e = λ n h same. cc (number_of-decimal word n h same)
not_spelled word (Some n) e = tt

not_padded : (n : ℕ) → n < 2 ^ 64 → (get_or (decimal n) 0 0 ≡ 43) ⊎ ((get_or (decimal n) 0 0 ≡ 48) × (1 < length (decimal n))) → ⊥
not_padded n small (inl plus) =
    let d = decimal_is_IsNumeral n small in
    let first = digit_at (decimal n) 0 d.0.1 d.0.0 in
    omega (arith, first)
not_padded n small (inr zero) =
    ⊎_elim (λ none. let one : length (decimal n) ≡ 1 = ap length (decimal_digit n (omega arith)) in omega (arith, zero.1))
    (λ some. omega (arith, first_decimal n some small, zero.0))
    (⊎_elim (λ below. inl below) (λ above. inr above) (cases_lt n 1))

-- neither a sign nor a leading zero is written
pub padded_none : (word : List ℕ) → (get_or word 0 0 ≡ 43) ⊎ ((get_or word 0 0 ≡ 48) × (1 < length word)) → number_of word ≡ None
padded_none word h = number_of-none word (λ n small same. not_padded n small (let P : List ℕ → Type 0 = λ w. (get_or w 0 0 ≡ 43) ⊎ ((get_or w 0 0 ≡ 48) × (1 < length w)) in subst P same h))

own : IsNumeralModel (AllDigits 10) (digits_value 10)
own = numerals_by_value (AllDigits 10) tells_digits

-- digits with neither are spelled
pub digits_spelled : (word : List ℕ) (r : Option ℕ) → ((get_or word 0 0 ≡ 48) × (1 < length word) → ⊥) → SomeIff r (IsNumeral 10 word × (digits_value 10 word < 2 ^ 64)) (digits_value 10 word) → r ≡ number_of word
digits_spelled word None no_zero h =
    sym (number_of-none word (λ n small same. let w = decimal_is_IsNumeral n small in
    h (let P : List ℕ → Type 0 = λ w. IsNumeral 10 w × (digits_value 10 w < 2 ^ 64) in subst P (sym same) (w.0, omega (arith, w.1)))))
digits_spelled word (Some n) no_zero h =
    let one : get_or word 0 0 ≡ 48 → length word ≡ 1 = λ zero. ⊎_elim (λ long. absurd (no_zero (zero, long))) (λ short. omega (arith, h.0.0.0)) (cases_lt 1 (length word)) in
    let written = decimal-digits_value own word h.0.0.1 h.0.0.0 one h.0.1 in
    sym (number_of-decimal word n (omega (arith, h.0.1, h.1)) (sym written ∙ ap decimal (sym h.1)))
