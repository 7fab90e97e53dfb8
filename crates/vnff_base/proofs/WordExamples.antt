-- The definitions on worked examples.
use Rattle.std.proofs.Common.{◌≡◌, ℕ, List, [], ◌∷◌, codes, Some, None, refl}
use Rattle.std.specs.Fmt.{digits}
use Rattle.vnff_base.specs.Hex.{hex_text, hex_bytes}
use Rattle.vnff_base.specs.Lines.{word_lines, line_count, words_of}
use Rattle.vnff_base.specs.Numbers.{number_of}

written : hex_text (0 ∷ 0xaf ∷ 0xfe ∷ []) ≡ codes "00affe"
written = refl

written_none : hex_text [] ≡ codes "-"
written_none = refl

read : hex_bytes (codes "00aFfE") ≡ Some (0 ∷ 0xaf ∷ 0xfe ∷ [])
unfolding hex_bytes
read = refl

read_none : hex_bytes (codes "-") ≡ Some []
unfolding hex_bytes
read_none = refl

cut : hex_bytes (codes "00a") ≡ None
unfolding hex_bytes
cut = refl

no_digit : hex_bytes (codes "-0") ≡ None
unfolding hex_bytes
no_digit = refl

zero_is : number_of (codes "0") ≡ Some 0
unfolding number_of digits
zero_is = refl

padded : number_of (codes "08") ≡ None
unfolding number_of digits
padded = refl

signed : number_of (codes "+8") ≡ None
unfolding number_of digits
signed = refl

largest : number_of (codes "18446744073709551615") ≡ Some 18446744073709551615
unfolding number_of digits
largest = refl

too_large : number_of (codes "18446744073709551616") ≡ None
unfolding number_of digits
too_large = refl

no_word : number_of [] ≡ None
unfolding number_of digits
no_word = refl

-- `a` and a carriage return, a comment, and `b` between blanks, whose line has no line feed
sample : List ℕ
sample = 97 ∷ 13 ∷ 10 ∷ 35 ∷ 99 ∷ 10 ∷ 32 ∷ 98 ∷ 9 ∷ 13 ∷ []

sample_lines : word_lines sample ≡ record { number = 1; words = (97 ∷ []) ∷ [] } ∷ record { number = 3; words = (98 ∷ []) ∷ (13 ∷ []) ∷ [] } ∷ []
unfolding words_of sample
sample_lines = refl

sample_count : line_count sample ≡ 3
unfolding sample
sample_count = refl
