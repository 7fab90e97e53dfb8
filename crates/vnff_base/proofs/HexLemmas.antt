-- What the spelling of bytes gives: pairs read one by one, and what is written is read back.
use Rattle.std.proofs.Common.{◌≡◌, ℕ, ◌+◌, ◌*◌, ◌/◌, ◌%◌, ◌<◌, true, false, List, [], ◌∷◌, ◌++◌, length, drop, get_or, ap, ◌∙◌, refl, arith, eqb, Some, None, ⊎_elim}
use Rattle.std.specs.Char.{digit_value, digit_char, is_ascii_hexdigit}
use Rattle.std.specs.List.{list_all, flat_map}
use Rattle.std.specs.Str.{bytes_eq}
use Rattle.std.proofs.lemmas.List.{drop_more}
use Rattle.std.proofs.lemmas.List.Elements.{All-head, All-tail, All-nil, All-cons, All-same}
use Rattle.std.proofs.lemmas.Bool.{and_from, and_right, and_parts, eq-eqb, ne_eqb, cond-false, cases_Bool}
use Rattle.std.proofs.lemmas.Bool.Decides.{nat_tests}
use Rattle.vnff_base.specs.Hex.{hex_text, hex_bytes, pair_bytes, hex_pair, dash, are_pairs}
use Rattle.byte_numbers.specs.Bytes.{IsBytes}

-- the pair at place k, and the pairs after it
pub pair_bytes-drop : (word : List ℕ) (k : ℕ) → 2 * k + 1 < length word → pair_bytes (drop (2 * k) word) ≡ (16 * digit_value (get_or word (2 * k) 0) + digit_value (get_or word (2 * k + 1) 0)) ∷ pair_bytes (drop (2 * (k + 1)) word)
pair_bytes-drop word k h =
    let one = drop_more word (2 * k) 0 (omega arith) in
    let two = drop_more word (2 * k + 1) 0 h in
    let next : 2 * k + 1 + 1 ≡ 2 * (k + 1) = omega arith in
    ap pair_bytes (one ∙ ap (λ rest. get_or word (2 * k) 0 ∷ rest) (two ∙ ap (λ n. get_or word (2 * k + 1) 0 ∷ drop n word) next))

pub digit_value-hex : (byte : ℕ) → is_ascii_hexdigit byte ≡ true → digit_value byte < 16
digit_value-hex byte h = grind (arith, nat_tests)

-- the three kinds of word
pub hex_bytes-dash : (word : List ℕ) → bytes_eq word dash ≡ true → hex_bytes word ≡ Some []
unfolding hex_bytes
hex_bytes-dash word h = rw h refl

pub hex_bytes-pairs : (word : List ℕ) → bytes_eq word dash ≡ false → are_pairs word ≡ true → hex_bytes word ≡ Some (pair_bytes word)
unfolding hex_bytes
hex_bytes-pairs word not_dash pairs = rw (not_dash, pairs) refl

pub hex_bytes-none : (word : List ℕ) → bytes_eq word dash ≡ false → are_pairs word ≡ false → hex_bytes word ≡ None
unfolding hex_bytes
hex_bytes-none word not_dash odd = rw (not_dash, odd) refl

pub ruleset kinds_of_word = (hex_bytes-dash, hex_bytes-pairs, hex_bytes-none)

-- a digit that is written is one that is read
pub digit_char-read : (d : ℕ) → d < 16 → (digit_value (digit_char d) ≡ d) × (is_ascii_hexdigit (digit_char d) ≡ true)
digit_char-read d h = (grind (arith, nat_tests), grind (arith, nat_tests))

pair_bytes-hex_pair : (byte : ℕ) (rest : List ℕ) → byte < 256 → pair_bytes (hex_pair byte ++ rest) ≡ byte ∷ pair_bytes rest
pair_bytes-hex_pair byte rest h =
    let high = digit_char-read (byte / 16) (omega arith) in
    let low = digit_char-read (byte % 16) (omega arith) in
    let value : 16 * digit_value (digit_char (byte / 16)) + digit_value (digit_char (byte % 16)) ≡ byte = rw (high.0, low.0) (omega arith) in
    ap (λ n. n ∷ pair_bytes rest) value

pair_bytes-written : (bytes : List ℕ) → IsBytes bytes → pair_bytes (flat_map hex_pair bytes) ≡ bytes
pair_bytes-written [] h = refl
pair_bytes-written (byte ∷ bytes) h =
    pair_bytes-hex_pair byte (flat_map hex_pair bytes) (All-head (λ b. b < 256) byte bytes h) ∙ ap (λ rest. byte ∷ rest) (pair_bytes-written bytes (All-tail (λ b. b < 256) byte bytes h))

digits-written : (bytes : List ℕ) → IsBytes bytes → list_all is_ascii_hexdigit (flat_map hex_pair bytes) ≡ true
digits-written [] h = refl
digits-written (byte ∷ bytes) h =
    let small = All-head (λ b. b < 256) byte bytes h in
    let high = digit_char-read (byte / 16) (omega arith) in
    let low = digit_char-read (byte % 16) (omega arith) in
    and_from _ _ high.1 (and_from _ _ low.1 (digits-written bytes (All-tail (λ b. b < 256) byte bytes h)))

length-written : (bytes : List ℕ) → length (flat_map hex_pair bytes) ≡ 2 * length bytes
length-written [] = refl
length-written (byte ∷ bytes) = let e = length-written bytes in omega arith

are_pairs-written : (bytes : List ℕ) → IsBytes bytes → are_pairs (flat_map hex_pair bytes) ≡ true
are_pairs-written bytes h =
    let e = length-written bytes in
    and_from _ _ (eq-eqb _ 0 (omega arith)) (digits-written bytes h)

-- what is written is read back
pub hex_bytes-hex_text : (bytes : List ℕ) → IsBytes bytes → hex_bytes (hex_text bytes) ≡ Some bytes
hex_bytes-hex_text [] h = hex_bytes-dash dash refl
hex_bytes-hex_text (byte ∷ bytes) h =
    let text = flat_map hex_pair (byte ∷ bytes) in
    let some : eqb (length (byte ∷ bytes)) 0 ≡ false = ne_eqb _ 0 (λ e. omega arith) in
    ap hex_bytes (cond-false (eqb (length (byte ∷ bytes)) 0) dash text some) ∙ (hex_bytes-pairs text (and_right _ _ refl) (are_pairs-written (byte ∷ bytes) h) ∙ ap Some (pair_bytes-written (byte ∷ bytes) h))

IsBytes-pairs : (word : List ℕ) → list_all is_ascii_hexdigit word ≡ true → IsBytes (pair_bytes word)
IsBytes-pairs [] h = All-nil (λ b. b < 256)
IsBytes-pairs (high ∷ []) h = All-nil (λ b. b < 256)
IsBytes-pairs (high ∷ low ∷ digits) h =
    let one = and_parts _ _ h in
    let two = and_parts _ _ one.1 in
    let first = digit_value-hex high one.0 in
    let second = digit_value-hex low two.0 in
    All-cons (λ b. b < 256) _ (pair_bytes digits) (omega arith) (IsBytes-pairs digits two.1)

-- what is read are bytes
pub IsBytes-hex_bytes : (word bytes : List ℕ) → hex_bytes word ≡ Some bytes → IsBytes bytes
IsBytes-hex_bytes word bytes h =
    ⊎_elim (λ dashed. let same : bytes ≡ [] = cc (hex_bytes-dash word dashed) in All-same (λ b. b < 256) bytes [] same (All-nil (λ b. b < 256)))
    (λ not_dash. ⊎_elim (λ pairs. let same : bytes ≡ pair_bytes word = cc (hex_bytes-pairs word not_dash pairs) in
    All-same (λ b. b < 256) bytes _ same (IsBytes-pairs word (and_parts _ _ pairs).1))
    (λ odd. absurd (cc (hex_bytes-none word not_dash odd)))
    (cases_Bool (are_pairs word)))
    (cases_Bool (bytes_eq word dash))
