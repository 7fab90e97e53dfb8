-- A rule matches exactly where the headers' bits and its key's are the same.
use Rattle.std.proofs.Common.{◌≡◌, ℕ, true, false, eqb, List, [], ◌∷◌, ◌++◌, length, length-take, length-drop, bit_and, take, drop, Option, Some, None, refl, sym, ap, ◌∙◌, arith}
use Rattle.std.specs.Prelude.{IfSome}
use Rattle.std.specs.List.{zip}
use Rattle.std.specs.Option.{option_map_or, option_copied}
use Rattle.std.specs.Borrow.{Bor}
use Rattle.std.specs.Cmp.Lexicographic.{pointwise, bytes_decides}
use Rattle.std.proofs.Math.Seq.{drop-append_seam, take-append_seam}
use Rattle.std.proofs.lemmas.Bool.{and_parts}
use Rattle.std.proofs.lemmas.List.{length-map}
use Rattle.std.proofs.lemmas.Slice.Zip.{length-zip}
use Rattle.ff_headers.specs.Kinds.{kind_size}
use Rattle.ff_headers.specs.SelectorParts.{SelectorParts}
use Rattle.ff_headers.specs.Frames.{HeaderBytes, header_at}
use Rattle.ff_headers.specs.Matching.{masked, fits, matches, key_size}
use Rattle.ff_headers.specs.declared.kind.Kind.{Kind}
use Rattle.ff_headers.proofs.MatchingLemmas.{matches-cons, matches-nil}
use Rattle.matcher.specs.Keys.{shape_of, kind_and_mask, masked_key, frame_key, joined_with}
use Rattle.matcher.proofs.KeyLemmas.{key_size-cons}

-- bytes of one size are masked to bits of one size
same_size : (mask a b : List ℕ) → length a ≡ length b → length (masked mask a) ≡ length (masked mask b)
same_size mask a b same =
    let la = length-zip a mask in
    let lb = length-zip b mask in
    let ma = length-map (zip a mask) (λ (p : ℕ × ℕ). bit_and p.0 p.1) in
    let mb = length-map (zip b mask) (λ (p : ℕ × ℕ). bit_and p.0 p.1) in
    omega arith

front_same : (a b c d : List ℕ) → length a ≡ length c → a ++ b ≡ c ++ d → a ≡ c
front_same a b c d long e =
    sym (take-append_seam a b) ∙ ap (λ (n : ℕ). take n (a ++ b)) long ∙ ap (take (length c)) e ∙ take-append_seam c d

back_same : (a b c d : List ℕ) → length a ≡ length c → a ++ b ≡ c ++ d → b ≡ d
back_same a b c d long e =
    sym (drop-append_seam a b) ∙ ap (λ (n : ℕ). drop n (a ++ b)) long ∙ ap (drop (length c)) e ∙ drop-append_seam c d

key_some : (front : List ℕ) (o : Option (List ℕ)) (key : List ℕ) → joined_with front o ≡ Some key → (rest : List ℕ) × (o ≡ Some rest) × (front ++ rest ≡ key)
key_some front None key e = absurd cc
key_some front (Some rest) key e = (rest, refl, cc)

-- each header that is held has its kind's size
abbrev pub HaveSizes : HeaderBytes → Type 0
HaveSizes headers = (kind : Kind) → IfSome (header_at headers kind) (λ value. length value ≡ kind_size kind)

module _ (headers : HeaderBytes) where
  first_fits : (s : SelectorParts) (part : List ℕ) (o : Option (List ℕ)) → option_map_or (λ value. pointwise eqb (masked s.mask value) (masked s.mask part)) o false ≡ true → (value : List ℕ) × (o ≡ Some value) × (masked s.mask value ≡ masked s.mask part)
  first_fits s part None e = absurd cc
  first_fits s part (Some value) e = (value, refl, (bytes_decides (masked s.mask value) (masked s.mask part)).0 e)

  fits_parts : (s : SelectorParts) (part : List ℕ) → fits s part headers ≡ true → (value : List ℕ) × (header_at headers s.kind ≡ Some value) × (masked s.mask value ≡ masked s.mask part)
  unfolding fits
  fits_parts s part e = first_fits s part (header_at headers s.kind) e

  fits_from : (s : SelectorParts) (part value : List ℕ) → header_at headers s.kind ≡ Some value → masked s.mask value ≡ masked s.mask part → fits s part headers ≡ true
  unfolding fits
  fits_from s part value at same = rw at ((bytes_decides (masked s.mask value) (masked s.mask part)).1 same)

  -- a match makes the two keys the same
  pub key_from_match : (ss : List SelectorParts) (key : List ℕ) → matches ss key headers ≡ true → frame_key ss headers ≡ Some (masked_key ss key)
  key_from_match [] key m = refl
  key_from_match (s ∷ ss) key m =
      let both = and_parts _ _ (sym (matches-cons s ss key headers) ∙ m) in
      let first = fits_parts s (take (kind_size s.kind) key) both.0 in
      let rest = key_from_match ss (drop (kind_size s.kind) key) both.1 in
      ap (λ (o : Option (List ℕ)). option_map_or (λ value. joined_with (masked s.mask value) (frame_key ss headers)) o None) first.1 ∙ ap (λ (o : Option (List ℕ)). joined_with (masked s.mask first.0) o) rest ∙ ap (λ (front : List ℕ). Some (front ++ masked_key ss (drop (kind_size s.kind) key))) first.2

  -- and the same keys make a match
  pub match_from_key : (ss : List SelectorParts) (key : List ℕ) → HaveSizes headers → length key ≡ key_size ss → frame_key ss headers ≡ Some (masked_key ss key) → matches ss key headers ≡ true
  match_from_key [] key sizes long e = matches-nil key headers
  match_from_key (s ∷ ss) key sizes long e = by_header (header_at headers s.kind) refl (sizes s.kind) e (match_from_key ss (drop (kind_size s.kind) key) sizes) where
    by_header : (o : Option (List ℕ)) → header_at headers s.kind ≡ o → IfSome o (λ value. length value ≡ kind_size s.kind) → option_map_or (λ value. joined_with (masked s.mask value) (frame_key ss headers)) o None ≡ Some (masked s.mask (take (kind_size s.kind) key) ++ masked_key ss (drop (kind_size s.kind) key)) → (length (drop (kind_size s.kind) key) ≡ key_size ss → frame_key ss headers ≡ Some (masked_key ss (drop (kind_size s.kind) key)) → matches ss (drop (kind_size s.kind) key) headers ≡ true) → matches (s ∷ ss) key headers ≡ true
    by_header None at size h deeper = absurd cc
    by_header (Some value) at size h deeper =
        let part = take (kind_size s.kind) key in
        let later = drop (kind_size s.kind) key in
        let sum = key_size-cons s ss in
        let lp = length-take (kind_size s.kind) key in
        let ld = length-drop (kind_size s.kind) key in
        let some = key_some (masked s.mask value) (frame_key ss headers) _ h in
        let same = same_size s.mask value part (omega arith) in
        let front = front_same (masked s.mask value) some.0 (masked s.mask part) (masked_key ss later) same some.2 in
        let back = back_same (masked s.mask value) some.0 (masked s.mask part) (masked_key ss later) same some.2 in
        let rest = deeper (omega arith) (some.1 ∙ ap Some back) in
        matches-cons s ss key headers ∙ rw (fits_from s part value at front, rest) refl

  -- a frame's key looks at kinds and masks alone
  pub frame_key_by_shape : (a b : List SelectorParts) → shape_of a ≡ shape_of b → frame_key a headers ≡ frame_key b headers
  frame_key_by_shape [] [] e = refl
  frame_key_by_shape [] (t ∷ ts) e = absurd cc
  frame_key_by_shape (s ∷ ss) [] e = absurd cc
  frame_key_by_shape (s ∷ ss) (t ∷ ts) e =
      let first : kind_and_mask s ≡ kind_and_mask t = cc in
      let kinds : s.kind ≡ t.kind = ap (λ (p : Kind × List ℕ). p.0) first in
      let masks : s.mask ≡ t.mask = ap (λ (p : Kind × List ℕ). p.1) first in
      let rest : shape_of ss ≡ shape_of ts = cc in
      rw (kinds, masks, frame_key_by_shape ss ts rest) refl

-- a reference to a header that has its kind's size
pub sized_by : (o : Option (Bor (List ℕ))) (p : Option (List ℕ)) (n : ℕ) → option_copied o ≡ p → IfSome o (λ header. length header.now ≡ n) → IfSome p (λ value. length value ≡ n)
sized_by None p n is size = rw (← is) tt
sized_by (Some header) p n is size = rw (← is) size
