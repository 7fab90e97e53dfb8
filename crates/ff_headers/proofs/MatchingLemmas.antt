-- The tests of matching decide what they stand for.
use Rattle.std.proofs.Common.{◌≡◌, ℕ, suc, ◌+◌, ◌<◌, Bool, true, false, ◌&&◌, eqb, List, [], ◌∷◌, map, length, get_or, take, drop, Some, None, bit_and, Decides, refl, sym, ap, ◌∙◌, arith}
use Rattle.std.specs.Prelude.{IsTrue, ◌↔◌}
use Rattle.std.specs.List.{zip}
use Rattle.std.specs.Cmp.Lexicographic.{pointwise, bytes_decides}
use Rattle.std.proofs.lemmas.Grind.{same_number_lists}
use Rattle.std.proofs.lemmas.List.{get_or-map}
use Rattle.std.proofs.lemmas.List.Sums.{sum_by-cons}
use Rattle.std.proofs.lemmas.Slice.Zip.{get_or-zip, length-zip}
use Rattle.std.proofs.lemmas.Bool.Decides.{Decides-like, same_from_decides}
use Rattle.ff_headers.specs.Kinds.{kind_size}
use Rattle.ff_headers.specs.SelectorParts.{SelectorParts}
use Rattle.ff_headers.specs.Frames.{HeaderBytes, header_at}
use Rattle.ff_headers.specs.Matching.{masked, SameUnder, fits, PartFits, matches, Matches, key_size}

-- ---- bytes under a mask

pub masked_at : (mask bytes : List ℕ) (j : ℕ) → length bytes ≡ length mask → j < length mask → get_or (masked mask bytes) j 0 ≡ bit_and (get_or bytes j 0) (get_or mask j 0)
masked_at mask bytes j same inside =
    let long = length-zip bytes mask in
    let at = get_or-zip bytes mask j (0, 0) (omega arith) inside in
    get_or-map (λ (p : ℕ × ℕ). bit_and p.0 p.1) (zip bytes mask) j (0, 0) 0 (omega arith) ∙ ap (λ (p : ℕ × ℕ). bit_and p.0 p.1) at

length_map : {A B : Type 0} (f : A → B) (xs : List A) → length (map f xs) ≡ length xs
length_map f [] = refl
length_map f (x ∷ xs) = ap suc (length_map f xs)

pub length-masked : (mask bytes : List ℕ) → length bytes ≡ length mask → length (masked mask bytes) ≡ length mask
length-masked mask bytes same =
    let long = length-zip bytes mask in
    let mapped = length_map (λ (p : ℕ × ℕ). bit_and p.0 p.1) (zip bytes mask) in
    omega arith

pub same_under_from_masked : (mask a b : List ℕ) → length a ≡ length mask → length b ≡ length mask → masked mask a ≡ masked mask b → SameUnder mask a b
same_under_from_masked mask a b la lb e j inside =
    sym (masked_at mask a j la inside) ∙ ap (λ xs. get_or xs j 0) e ∙ masked_at mask b j lb inside

pub masked_from_same_under : (mask a b : List ℕ) → length a ≡ length mask → length b ≡ length mask → SameUnder mask a b → masked mask a ≡ masked mask b
masked_from_same_under mask a b la lb h =
    let long = length-masked mask a la in
    let long' = length-masked mask b lb in
    same_number_lists (masked mask a) (masked mask b) (omega arith) (λ k inside.
    let i : k < length mask = omega arith in
    masked_at mask a k la i ∙ h k i ∙ sym (masked_at mask b k lb i))

pub masked_decides : (mask a b : List ℕ) → length a ≡ length mask → length b ≡ length mask → Decides (pointwise eqb (masked mask a) (masked mask b)) (SameUnder mask a b)
masked_decides mask a b la lb =
    Decides-like _ (same_under_from_masked mask a b la lb) (masked_from_same_under mask a b la lb) (bytes_decides (masked mask a) (masked mask b))

-- ---- one selector

-- r answers whether a held header is the same as the part under the mask
pub fits-held : (s : SelectorParts) (part : List ℕ) (h : HeaderBytes) (value : List ℕ) (r : Bool) → header_at h s.kind ≡ Some value → length value ≡ length s.mask → length part ≡ length s.mask → (IsTrue r ↔ SameUnder s.mask value part) → r ≡ fits s part h
unfolding fits
fits-held s part h value r at lv lp says =
    rw at (same_from_decides r _ says (masked_decides s.mask value part lv lp))

pub fits-none : (s : SelectorParts) (part : List ℕ) (h : HeaderBytes) → header_at h s.kind ≡ None → false ≡ fits s part h
unfolding fits
fits-none s part h at = rw at refl

pub PartFits-held : (s : SelectorParts) (part : List ℕ) (h : HeaderBytes) (value : List ℕ) (r : Bool) → header_at h s.kind ≡ Some value → (IsTrue r ↔ SameUnder s.mask value part) → IsTrue r ↔ PartFits s part h
PartFits-held s part h value r at says = rw at says

pub PartFits-none : (s : SelectorParts) (part : List ℕ) (h : HeaderBytes) → header_at h s.kind ≡ None → IsTrue false ↔ PartFits s part h
PartFits-none s part h at = rw at (λ e. cc, λ e. absurd e)

-- ---- a list of selectors

pub matches-cons : (s : SelectorParts) (ss : List SelectorParts) (key : List ℕ) (h : HeaderBytes) → matches (s ∷ ss) key h ≡ (fits s (take (kind_size s.kind) key) h && matches ss (drop (kind_size s.kind) key) h)
unfolding matches
matches-cons s ss key h = refl

pub matches-nil : (key : List ℕ) (h : HeaderBytes) → matches [] key h ≡ true
unfolding matches
matches-nil key h = refl

pub left_none : (list ss : List SelectorParts) (s : SelectorParts) (part rest : List ℕ) (h : HeaderBytes) → list ≡ s ∷ ss → part ≡ take (kind_size s.kind) rest → false ≡ fits s part h → false ≡ matches list rest h
left_none list ss s part rest h e p fit =
    rw e (sym (matches-cons s ss rest h ∙ rw (← p, ← fit) refl))

pub left_long : (list ss : List SelectorParts) (s : SelectorParts) (rest later : List ℕ) → list ≡ s ∷ ss → length rest ≡ key_size list → length later + kind_size s.kind ≡ length rest → length later ≡ key_size ss
left_long list ss s rest later e long cut =
    let sum = sum_by-cons (λ (t : SelectorParts). kind_size t.kind) s ss in
    let size : key_size list ≡ key_size (s ∷ ss) = ap key_size e in
    omega arith

-- what is left of a match after one selector that fits
pub left_same : (list ss : List SelectorParts) (s : SelectorParts) (part rest later : List ℕ) (h : HeaderBytes) → list ≡ s ∷ ss → part ≡ take (kind_size s.kind) rest → later ≡ drop (kind_size s.kind) rest → true ≡ fits s part h → matches list rest h ≡ matches ss later h
left_same list ss s part rest later h e p l fit =
    rw e (matches-cons s ss rest h ∙ rw (← p, ← l, ← fit) refl)

pub left_meaning : (list ss : List SelectorParts) (s : SelectorParts) (part rest later : List ℕ) (h : HeaderBytes) → list ≡ s ∷ ss → part ≡ take (kind_size s.kind) rest → later ≡ drop (kind_size s.kind) rest → PartFits s part h → (Matches list rest h ↔ Matches ss later h)
left_meaning list ss s part rest later h e p l fit =
    rw (e, l) (λ m. m.1, λ m. (rw p at fit, m))
