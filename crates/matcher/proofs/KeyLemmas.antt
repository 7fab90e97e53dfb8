-- Keys under masks, selector by selector.
use Rattle.std.proofs.Common.{◌≡◌, ℕ, ◌+◌, ◌<◌, ◌≤◌, List, [], ◌∷◌, ◌++◌, length, get_or, take, drop, Option, Some, None, bit_and, refl, sym, ap, ◌∙◌, arith, append_assoc, append-nil, length-append}
use Rattle.std.specs.Option.{option_map_or}
use Rattle.std.proofs.lemmas.Grind.{same_number_lists}
use Rattle.std.proofs.lemmas.List.Sums.{sum_by-cons}
use Rattle.ff_headers.specs.Kinds.{kind_size}
use Rattle.ff_headers.specs.SelectorParts.{SelectorParts}
use Rattle.ff_headers.specs.Frames.{HeaderBytes, header_at}
use Rattle.ff_headers.specs.Matching.{masked, key_size}
use Rattle.ff_headers.proofs.MatchingLemmas.{masked_at, length-masked}
use Rattle.matcher.specs.Keys.{masked_key, frame_key, joined_with}

-- all bytes are masked
pub masked_all : (mask before after : List ℕ) (n : ℕ) → length before ≡ length mask → length after ≡ length before → length before ≤ n → ((k : ℕ) → k < n → get_or after k 0 ≡ bit_and (get_or before k 0) (get_or mask k 0)) → after ≡ masked mask before
masked_all mask before after n same kept all each =
    let long = length-masked mask before same in
    same_number_lists after (masked mask before) (omega arith) (λ k inside. each k (omega arith) ∙ sym (masked_at mask before k same (omega arith)))

pub key_size-cons : (s : SelectorParts) (ss : List SelectorParts) → key_size (s ∷ ss) ≡ kind_size s.kind + key_size ss
key_size-cons s ss = sum_by-cons (λ (t : SelectorParts). kind_size t.kind) s ss

-- one selector more leaves room for those behind it
pub room_left : (list rest : List SelectorParts) (s : SelectorParts) (bits part : List ℕ) → list ≡ s ∷ rest → length part ≡ kind_size s.kind → length s.mask ≡ kind_size s.kind → length bits + key_size list ≤ 74 → (length bits + length part ≤ 74) × (length (bits ++ masked s.mask part) + key_size rest ≤ 74)
room_left list rest s bits part is long whole room =
    let sum = key_size-cons s rest in
    let size : key_size list ≡ key_size (s ∷ rest) = ap key_size is in
    let more = length-masked s.mask part (omega arith) in
    let both = length-append bits (masked s.mask part) in
    (omega arith, omega arith)

-- ---- a rule's key

pub masked_key_more : (list rest : List SelectorParts) (s : SelectorParts) (bits part key later : List ℕ) → list ≡ s ∷ rest → part ≡ take (kind_size s.kind) key → later ≡ drop (kind_size s.kind) key → bits ++ masked_key list key ≡ (bits ++ masked s.mask part) ++ masked_key rest later
masked_key_more list rest s bits part key later is front back =
    rw (is, front, back) (sym (append_assoc bits (masked s.mask (take (kind_size s.kind) key)) (masked_key rest (drop (kind_size s.kind) key))))

pub masked_key_done : (list : List SelectorParts) (bits key : List ℕ) → list ≡ [] → bits ++ masked_key list key ≡ bits
masked_key_done list bits key is = rw is (append-nil bits)

-- ---- a frame's key

joined_twice : (a b : List ℕ) (rest : Option (List ℕ)) → joined_with a (joined_with b rest) ≡ joined_with (a ++ b) rest
joined_twice a b None = refl
joined_twice a b (Some c) = ap Some (sym (append_assoc a b c))

pub frame_key_more : (list rest : List SelectorParts) (s : SelectorParts) (bits value : List ℕ) (headers : HeaderBytes) → list ≡ s ∷ rest → header_at headers s.kind ≡ Some value → joined_with bits (frame_key list headers) ≡ joined_with (bits ++ masked s.mask value) (frame_key rest headers)
frame_key_more list rest s bits value headers is at =
    rw is (ap (λ (o : Option (List ℕ)). joined_with bits (option_map_or (λ v. joined_with (masked s.mask v) (frame_key rest headers)) o None)) at ∙ joined_twice bits (masked s.mask value) (frame_key rest headers))

pub frame_key_none : (list rest : List SelectorParts) (s : SelectorParts) (bits : List ℕ) (headers : HeaderBytes) → list ≡ s ∷ rest → header_at headers s.kind ≡ None → joined_with bits (frame_key list headers) ≡ None
frame_key_none list rest s bits headers is at =
    rw is (ap (λ (o : Option (List ℕ)). joined_with bits (option_map_or (λ v. joined_with (masked s.mask v) (frame_key rest headers)) o None)) at)

pub frame_key_done : (list : List SelectorParts) (bits : List ℕ) (headers : HeaderBytes) → list ≡ [] → joined_with bits (frame_key list headers) ≡ Some bits
frame_key_done list bits headers is = rw is (ap Some (append-nil bits))

pub joined_nothing : (o : Option (List ℕ)) → o ≡ joined_with [] o
joined_nothing None = refl
joined_nothing (Some c) = refl
