-- What a word spells is in its range.
use Rattle.std.proofs.Common.{◌≡◌, ℕ, ◌+◌, ◌-◌, ◌/◌, ◌%◌, ◌^◌, ◌<◌, ◌≤◌, eqb, ltb, leb, zero, suc, List, [], ◌∷◌, ◌++◌, length, replicate, take, drop, count_by, Option, Some, None, option_map, IfSome, Result, Ok, Err, IfOk, ap, refl, subst, arith, if◌then◌else◌, ◌==◌, length-append}
use Rattle.std.specs.Int.Digits.{AllBelowBase, number_from_digits}
use Rattle.std.specs.List.{list_any, slice_split}
use Rattle.std.specs.Option.{option_and_then}
use Rattle.std.specs.Prelude.{codes}
use Rattle.std.specs.Str.{bytes_eq}
use Rattle.std.proofs.lemmas.Bool.{eqb-true, leb-true, ltb-true}
use Rattle.std.proofs.lemmas.Int.Digits.{number_lt}
use Rattle.std.proofs.lemmas.List.{length-replicate}
use Rattle.std.proofs.lemmas.Result.{IfOk-at_ok}
use Rattle.vnff_base.specs.Numbers.{number_of}
use Rattle.ntuple_text.specs.Addresses.{address_at, all_groups, address_of_bytes, at_most_eight_groups, address_around_gap, gap_of, address_with_gap, groups_of, ipv4_of, ipv6_of, is_dot, last_groups, mac_of, address_of_groups}
use Rattle.ntuple_text.specs.Numerals.{hex_number, if_at_most, numeral_of, numeral_up_to}
use Rattle.ntuple_text.specs.Pieces.{byte_within, front_of, hex_group, is_separator, piece_of, pieces_of}
use Rattle.ntuple_text.specs.SpecTexts.{form_range}
use Rattle.ntuple_text.specs.Spellable.{IsActionOf}
use Rattle.ntuple_text.specs.Values.{action_value, location_value, queue_value, field_value}
use Rattle.ntuple_text.specs.declared.error.Fault.{Fault}
use Rattle.ntuple_text.specs.declared.error.Fault.TheVariants.{Address, Loc, Number, Queue as WrongQueue}
use Rattle.ntuple_text.specs.declared.key.FieldForm.{FieldForm}
use Rattle.ntuple_text.specs.declared.key.FieldForm.TheVariants.{Mac, Ipv4, Ipv6, Bits8, Bits16}
use Rattle.ntuple_text.specs.declared.piece.Spelling.{Spelling}
use Rattle.ntuple_text.specs.declared.piece.Spelling.TheVariants.{MacGroup, Ipv4Byte, Ipv6Group}
use Rattle.ntuple_text.specs.declared.spec.TableDo.TheVariants.{Drop, Queue}
use Rattle.ntuple_text.proofs.NumeralLemmas.{hex_number-small}
use Rattle.ntuple_text.proofs.StepLemmas.{ok-if, ok-next, ok-or, some-from, some-if, some-map, some-then}

-- one above the greatest number of one piece
abbrev pub piece_range : Spelling → ℕ
piece_range MacGroup = 256
piece_range Ipv4Byte = 256
piece_range Ipv6Group = 65536

-- one piece of an address
hex_group-small : (most : ℕ) (digits : List ℕ) → IfSome (hex_group most digits) (λ n. n < 16 ^ most)
hex_group-small most digits =
    let P : ℕ → Type 0 = λ n. n < 16 ^ most in
    some-if P (leb (length digits) most) (hex_number digits) None (λ short. some-from P (hex_number digits) (λ n read. hex_number-small most digits n read (leb-true _ _ short))) (λ long. tt)

byte-small : (read : Option ℕ) → IfSome (byte_within read) (λ n. n < 256)
byte-small None = tt
byte-small (Some n) =
    let P : ℕ → Type 0 = λ n. n < 256 in some-if P (ltb n 256) (Some n) None (λ small. ltb-true n 256 small) (λ large. tt)

piece-small : (s : Spelling) (piece : List ℕ) → IfSome (piece_of s piece) (λ n. n < piece_range s)
unfolding piece_of
piece-small MacGroup piece = hex_group-small 2 piece
piece-small Ipv4Byte piece = byte-small (number_of piece)
piece-small Ipv6Group piece = hex_group-small 4 piece

-- each number of a text's pieces is in its range
abbrev IsFront : Spelling → List ℕ × List ℕ → Type 0
IsFront s pieces = AllBelowBase (piece_range s) pieces.0

front-small : (s : Spelling) (parts : List (List ℕ)) → IfSome (front_of s parts) (IsFront s)
front-small s [] = tt
front-small s (piece ∷ []) = tt
front-small s (piece ∷ next ∷ more) =
    some-then (λ n. n < piece_range s) (IsFront s) (λ n. option_map (λ pieces. (n ∷ pieces.0, pieces.1)) (front_of s (next ∷ more))) (piece_of s piece) (piece-small s piece)
    (λ n small. some-map (IsFront s) (IsFront s) (λ pieces. (n ∷ pieces.0, pieces.1)) (front_of s (next ∷ more)) (front-small s (next ∷ more)) (λ pieces all. (small, all)))

pieces-small : (s : Spelling) (separator : ℕ) (text : List ℕ) → IfSome (pieces_of s separator text) (IsFront s)
unfolding pieces_of
pieces-small s separator text =
    let p = is_separator separator in
    some-if (IsFront s) (ltb (count_by p text) 8) (front_of s (slice_split p text)) None (λ few. front-small s (slice_split p text)) (λ many. tt)

-- lists of numbers below a base, as digits
all-append : (base : ℕ) (front back : List ℕ) → AllBelowBase base front → AllBelowBase base back → AllBelowBase base (front ++ back)
all-append base [] back first last = last
all-append base (n ∷ front) back first last = (first.0, all-append base front back first.1 last)

all-zeros : (base n : ℕ) → 0 < base → AllBelowBase base (replicate n 0)
all-zeros base zero some = tt
all-zeros base (suc n) some = (some, all-zeros base n some)

number-small : (base count : ℕ) (digits : List ℕ) → AllBelowBase base digits → length digits ≡ count → number_from_digits base digits < base ^ count
number-small base count digits all is = omega (arith, number_lt base digits all, ap (λ k. base ^ k) is)

-- an address of so many bytes
bytes-small : (s : Spelling) (count : ℕ) (pieces : List ℕ × List ℕ) → piece_range s ≡ 256 → IsFront s pieces → IfSome (address_of_bytes s count pieces) (λ n. n < 256 ^ count)
bytes-small s count pieces bytes all =
    let P : ℕ → Type 0 = λ n. n < 256 ^ count in
    let Below : ℕ → Type 0 = λ range. AllBelowBase range pieces.0 in
    let Last : ℕ → Type 0 = λ range. IfSome (piece_of s pieces.1) (λ n. n < range) in
    some-then (λ n. n < 256) P (λ last. if length pieces.0 + 1 == count then Some (number_from_digits 256 (pieces.0 ++ last ∷ [])) else None) (piece_of s pieces.1) (subst Last bytes (piece-small s pieces.1))
    (λ last small. some-if P (eqb (length pieces.0 + 1) count) (Some (number_from_digits 256 (pieces.0 ++ last ∷ []))) None
    (λ here. number-small 256 count (pieces.0 ++ last ∷ []) (all-append 256 pieces.0 (last ∷ []) (subst Below bytes all) (small, tt)) (omega (arith, length-append pieces.0 (last ∷ []), eqb-true _ _ here)))
    (λ other. tt))

pub mac-small : (word : List ℕ) → IfSome (mac_of word) (λ n. n < 2 ^ 48)
unfolding mac_of
mac-small word =
    some-then (IsFront MacGroup) (λ n. n < 2 ^ 48) (address_of_bytes MacGroup 6) (pieces_of MacGroup 58 word) (pieces-small MacGroup 58 word) (λ pieces all. bytes-small MacGroup 6 pieces refl all)

pub ipv4-small : (word : List ℕ) → IfSome (ipv4_of word) (λ n. n < 2 ^ 32)
unfolding ipv4_of
ipv4-small word =
    some-then (IsFront Ipv4Byte) (λ n. n < 2 ^ 32) (address_of_bytes Ipv4Byte 4) (pieces_of Ipv4Byte 46 word) (pieces-small Ipv4Byte 46 word) (λ pieces all. bytes-small Ipv4Byte 4 pieces refl all)

-- groups of 16 bits
last_groups-small : (piece : List ℕ) → IfSome (last_groups piece) (AllBelowBase 65536)
unfolding last_groups
last_groups-small piece =
    some-if (AllBelowBase 65536) (list_any is_dot piece) (option_map (λ address. address / 65536 ∷ address % 65536 ∷ []) (ipv4_of piece)) (option_map (λ group. group ∷ []) (piece_of Ipv6Group piece))
    (λ dotted. some-map (λ n. n < 2 ^ 32) (AllBelowBase 65536) (λ address. address / 65536 ∷ address % 65536 ∷ []) (ipv4_of piece) (ipv4-small piece) (λ n small. (omega arith, (omega arith, tt))))
    (λ plain. some-map (λ n. n < 65536) (AllBelowBase 65536) (λ group. group ∷ []) (piece_of Ipv6Group piece) (piece-small Ipv6Group piece) (λ n small. (small, tt)))

all_groups-small : (pieces : List ℕ × List ℕ) → IsFront Ipv6Group pieces → IfSome (all_groups pieces) (AllBelowBase 65536)
all_groups-small pieces all =
    some-then (AllBelowBase 65536) (AllBelowBase 65536) (at_most_eight_groups pieces.0) (last_groups pieces.1) (last_groups-small pieces.1)
    (λ last small. some-if (AllBelowBase 65536) (leb (length pieces.0 + length last) 8) (Some (pieces.0 ++ last)) None (λ few. all-append 65536 pieces.0 last all small) (λ many. tt))

groups-small : (text : List ℕ) → IfSome (groups_of text) (AllBelowBase 65536)
unfolding groups_of
groups-small text =
    some-if (AllBelowBase 65536) (eqb (length text) 0) (Some []) (option_and_then all_groups (pieces_of Ipv6Group 58 text)) (λ none. tt)
    (λ some. some-then (IsFront Ipv6Group) (AllBelowBase 65536) all_groups (pieces_of Ipv6Group 58 text) (pieces-small Ipv6Group 58 text) all_groups-small)

whole-small : (groups : List ℕ) → AllBelowBase 65536 groups → IfSome (address_of_groups groups) (λ n. n < 2 ^ 128)
whole-small groups all =
    some-if (λ n. n < 2 ^ 128) (eqb (length groups) 8) (Some (number_from_digits 65536 groups)) None (λ eight. number-small 65536 8 groups all (eqb-true _ _ eight)) (λ other. tt)

filled-small : (front back : List ℕ) → AllBelowBase 65536 front → AllBelowBase 65536 back → IfSome (address_around_gap front back) (λ n. n < 2 ^ 128)
filled-small front back first last =
    let zeros = 8 - (length front + length back) in
    let groups = front ++ replicate zeros 0 ++ back in
    some-if (λ n. n < 2 ^ 128) (leb (length front + length back + 1) 8) (Some (number_from_digits 65536 groups)) None
    (λ few. number-small 65536 8 groups (all-append 65536 (front ++ replicate zeros 0) back (all-append 65536 front (replicate zeros 0) first (all-zeros 65536 zeros (omega arith))) last) (omega (arith, leb-true _ _ few, length-append (front ++ replicate zeros 0) back, length-append front (replicate zeros 0), length-replicate {A = ℕ} zeros 0)))
    (λ many. tt)

gapped-small : (before after : List ℕ) → IfSome (address_with_gap before after) (λ n. n < 2 ^ 128)
unfolding address_with_gap
gapped-small before after =
    let P : ℕ → Type 0 = λ n. n < 2 ^ 128 in
    some-if P (list_any is_dot before) None (option_and_then (λ front. option_and_then (address_around_gap front) (groups_of after)) (groups_of before)) (λ dotted. tt)
    (λ plain. some-then (AllBelowBase 65536) P (λ front. option_and_then (address_around_gap front) (groups_of after)) (groups_of before) (groups-small before)
    (λ front first. some-then (AllBelowBase 65536) P (address_around_gap front) (groups_of after) (groups-small after) (λ back last. filled-small front back first last)))

address-small : (word : List ℕ) (gap : Option ℕ) → IfSome (address_at word gap) (λ n. n < 2 ^ 128)
address-small word None = some-then (AllBelowBase 65536) (λ n. n < 2 ^ 128) address_of_groups (groups_of word) (groups-small word) whole-small
address-small word (Some place) = gapped-small (take place word) (drop (place + 2) word)

pub ipv6-small : (word : List ℕ) → IfSome (ipv6_of word) (λ n. n < 2 ^ 128)
unfolding ipv6_of
ipv6-small word = address-small word (gap_of word)

-- a number is below the one after its greatest
within-small : (most : ℕ) (read : Result ℕ Fault) → IfOk (if_at_most most read) (λ n. n < most + 1)
within-small most (Err fault) = tt
within-small most (Ok n) =
    let P : ℕ → Type 0 = λ n. n < most + 1 in
    ok-if P (leb n most) (Ok n) (Err Number) (λ few. let le : n ≤ most = leb-true n most few in omega arith) (λ many. tt)

numeral-small : (most : ℕ) (word : List ℕ) → IfOk (numeral_up_to most word) (λ n. n < most + 1)
unfolding numeral_up_to
numeral-small most word = within-small most (numeral_of word)

-- the value that is read of a word is in the range of its form
pub value-in_range : (form : FieldForm) (word : List ℕ) → IfOk (field_value form word) (λ v. v < form_range form)
unfolding field_value
value-in_range Mac word = ok-or (λ n. n < 2 ^ 48) Address (mac_of word) (mac-small word)
value-in_range Ipv4 word = ok-or (λ n. n < 2 ^ 32) Address (ipv4_of word) (ipv4-small word)
value-in_range Ipv6 word = ok-or (λ n. n < 2 ^ 128) Address (ipv6_of word) (ipv6-small word)
value-in_range Bits8 word = numeral-small 255 word
value-in_range Bits16 word = numeral-small 65535 word

pub value-small : (form : FieldForm) (word : List ℕ) (v : ℕ) → field_value form word ≡ Ok v → v < form_range form
value-small form word v read = IfOk-at_ok (λ v. v < form_range form) read (value-in_range form word)

-- and so are a queue, an action and a location
pub queue-below : (pairs : ℕ) (word : List ℕ) → IfOk (queue_value pairs word) (IsActionOf pairs)
unfolding queue_value
queue-below pairs word =
    ok-next (IsActionOf pairs) (λ n. if ltb n pairs then Ok (Queue n) else Err WrongQueue) (numeral_of word)
    (λ n. ok-if (IsActionOf pairs) (ltb n pairs) (Ok (Queue n)) (Err WrongQueue) (λ below. ltb-true n pairs below) (λ above. tt))

pub action-below : (pairs : ℕ) (word : List ℕ) → IfOk (action_value pairs word) (IsActionOf pairs)
unfolding action_value
action-below pairs word =
    ok-if (IsActionOf pairs) (bytes_eq word (codes "-1")) (Ok Drop) (queue_value pairs word) (λ drop. tt) (λ other. queue-below pairs word)

pub location-below : (word : List ℕ) → IfOk (location_value word) (λ loc. loc < 1024)
unfolding location_value
location-below word =
    let P : ℕ → Type 0 = λ loc. loc < 1024 in
    ok-next P (λ n. if ltb n 1024 then Ok n else Err Loc) (numeral_of word)
    (λ n. ok-if P (ltb n 1024) (Ok n) (Err Loc) (λ below. ltb-true n 1024 below) (λ above. tt))
