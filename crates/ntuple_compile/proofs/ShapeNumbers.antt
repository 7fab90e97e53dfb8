-- A spec's classifier is held under its number: its selectors stand there among the classifiers.
use Rattle.std.proofs.Common.{◌≡◌, ℕ, suc, ◌+◌, ◌<◌, Bool, true, false, not, cond, List, [], ◌∷◌, map, filter, length, get_or, Some, refl, sym, ap, ◌∙◌, arith, subst, ◌⊎◌, inl, inr}
use Rattle.std.specs.List.{AllByRecursion, enumerate_from, position_or_len}
use Rattle.std.specs.Prelude.{bytes_eq}
use Rattle.std.proofs.lemmas.Bool.{and_parts, and_from}
use Rattle.std.proofs.lemmas.List.Elements.{All-from_recursion, All-get_or}
use Rattle.std.proofs.lemmas.List.Sums.{passes_at_first}
use Rattle.std.proofs.lemmas.Slice.Eq.{bytes_eq-Decides}
use Rattle.ff_headers.specs.Kinds.{kind_code, kind_of_code}
use Rattle.ff_headers.specs.Objects.{object_under}
use Rattle.ff_headers.specs.SelectorParts.{SelectorParts, selector_with}
use Rattle.ff_headers.specs.Shapes.{codes_of}
use Rattle.ff_headers.specs.declared.kind.Kind.{Kind}
use Rattle.ff_headers.specs.declared.kind.Kind.TheVariants.{Eth, Ipv4, Ipv6, Tcp, Udp}
use Rattle.ntuple_text.specs.declared.spec.Spec.{Spec}
use Rattle.ntuple_compile.specs.Compiled.{SelectorList, each_once, same_masks, same_shape, shape_number, shapes_of}
use Rattle.ntuple_compile.specs.Selected.{flags_for, mask_for, selector_of_mask, selectors_of}
use Rattle.ntuple_compile.specs.SpecFits.{kinds_of}
use Rattle.ntuple_compile.proofs.EachElement.{each_kept, each_more}
use Rattle.ntuple_compile.proofs.RuleMatches.{numbered_is_held}

-- ---- equal shapes

-- the flags of each selector are those of its mask
abbrev Flagged : SelectorList → Type 0
Flagged shape = AllByRecursion (λ (s : SelectorParts). s.flags ≡ flags_for s.kind s.mask) shape

kind_coded : (kind : Kind) → kind_of_code (kind_code kind) ≡ Some kind
kind_coded Eth = refl
kind_coded Ipv4 = refl
kind_coded Ipv6 = refl
kind_coded Tcp = refl
kind_coded Udp = refl

same_kind : (a b : Kind) → kind_code a ≡ kind_code b → a ≡ b
same_kind a b same =
    let is : Some a ≡ Some b = sym (kind_coded a) ∙ (ap kind_of_code same ∙ kind_coded b) in cc

same_bytes : (xs ys : List ℕ) → bytes_eq xs ys ≡ true → xs ≡ ys
same_bytes xs ys same = (bytes_eq-Decides xs ys).0 same

equal_bytes : (xs : List ℕ) → bytes_eq xs xs ≡ true
equal_bytes xs = (bytes_eq-Decides xs xs).1 refl

-- a selector is its kind and its mask
same_selector : (a b : SelectorParts) → a.flags ≡ flags_for a.kind a.mask → b.flags ≡ flags_for b.kind b.mask → a.kind ≡ b.kind → a.mask ≡ b.mask → a ≡ b
same_selector a b flagged also kind mask =
    let flags : a.flags ≡ b.flags = flagged ∙ (ap (λ k. flags_for k a.mask) kind ∙ (ap (flags_for b.kind) mask ∙ sym also)) in
    ap (λ k. selector_with k a.flags a.mask) kind ∙ (ap (λ f. selector_with b.kind f a.mask) flags ∙ ap (selector_with b.kind b.flags) mask)

-- what the codes and the masks of two lists say of their first selectors, and of the others
first_same : (s t : SelectorParts) (ss ts : SelectorList) → same_shape (s ∷ ss) (t ∷ ts) ≡ true → (s.kind ≡ t.kind) × (s.mask ≡ t.mask) × (same_shape ss ts ≡ true)
first_same s t ss ts same =
    let both = and_parts (bytes_eq (codes_of (s ∷ ss)) (codes_of (t ∷ ts))) (same_masks (s ∷ ss) (t ∷ ts)) same in
    let codes : kind_code s.kind ∷ codes_of ss ≡ kind_code t.kind ∷ codes_of ts = same_bytes _ _ both.0 in
    let masks = and_parts (bytes_eq s.mask t.mask) (same_masks ss ts) both.1 in
    let rest : codes_of ss ≡ codes_of ts = cc in
    (same_kind s.kind t.kind cc, same_bytes s.mask t.mask masks.0, and_from _ _ (ap (bytes_eq (codes_of ss)) (sym rest) ∙ equal_bytes (codes_of ss)) masks.1)

-- two such lists with the same kinds and masks are equal
same_is_equal : (a b : SelectorList) → Flagged a → Flagged b → same_shape a b ≡ true → a ≡ b
same_is_equal [] [] flagged also same = refl
same_is_equal [] (t ∷ ts) flagged also same = absurd cc
same_is_equal (s ∷ ss) [] flagged also same = absurd cc
same_is_equal (s ∷ ss) (t ∷ ts) flagged also same =
    let parts = first_same s t ss ts same in
    let first = same_selector s t flagged.0 also.0 parts.0 parts.1 in
    let rest = same_is_equal ss ts flagged.1 also.1 parts.2 in
    cc

equal_masks : (a : SelectorList) → same_masks a a ≡ true
equal_masks [] = refl
equal_masks (s ∷ ss) = and_from _ _ (equal_bytes s.mask) (equal_masks ss)

equal_shape : (a : SelectorList) → same_shape a a ≡ true
equal_shape a = and_from _ _ (equal_bytes (codes_of a)) (equal_masks a)

-- ---- a shape among others

-- the shape is one of them
abbrev Has : SelectorList → List SelectorList → Type 0
Has shape [] = ⊥
Has shape (one ∷ others) = (one ≡ shape) ⊎ Has shape others

-- a filter keeps a shape that passes
kept : (p : SelectorList → Bool) (shape : SelectorList) (shapes : List SelectorList) → p shape ≡ true → Has shape shapes → Has shape (filter p shapes)
kept p shape [] passes has = absurd has
kept p shape (one ∷ others) passes has = by_test (p one) refl has (kept p shape others passes) where
  by_test : (b : Bool) → p one ≡ b → Has shape (one ∷ others) → (Has shape others → Has shape (filter p others)) → Has shape (cond b (one ∷ filter p others) (filter p others))
  by_test true test (inl is) rest = inl is
  by_test true test (inr later) rest = inr (rest later)
  by_test false test (inl is) rest = let both : true ≡ false = sym passes ∙ (sym (ap p is) ∙ test) in absurd cc
  by_test false test (inr later) rest = rest later

-- a shape of the list is among those that stand there once
once_has : (shape : SelectorList) (shapes : List SelectorList) → Flagged shape → AllByRecursion Flagged shapes → Has shape shapes → Has shape (each_once shapes)
once_has shape [] mine flagged has = absurd has
once_has shape (one ∷ others) mine flagged (inl is) = inl is
once_has shape (one ∷ others) mine flagged (inr later) = by_test (same_shape one shape) refl (once_has shape others mine flagged.1 later) where
  by_test : (b : Bool) → same_shape one shape ≡ b → Has shape (each_once others) → Has shape (each_once (one ∷ others))
  by_test true same rest = inl (same_is_equal one shape flagged.0 mine same)
  by_test false apart rest = inr (kept (λ other. not (same_shape one other)) shape (each_once others) (ap not apart) rest)

-- what holds of each of them holds of each of those
pub once_all : (P : SelectorList → Type 0) (shapes : List SelectorList) → AllByRecursion P shapes → AllByRecursion P (each_once shapes)
once_all P [] all = tt
once_all P (shape ∷ shapes) all = (all.0, each_kept P (λ other. not (same_shape shape other)) (each_once shapes) (once_all P shapes all.1))

-- there is a place where it stands
stands : (p : SelectorList → Bool) (shape : SelectorList) (shapes : List SelectorList) → p shape ≡ true → Has shape shapes → position_or_len p shapes < length shapes
stands p shape [] passes has = absurd has
stands p shape (one ∷ others) passes has = by_test (p one) refl has (stands p shape others passes) where
  by_test : (b : Bool) → p one ≡ b → Has shape (one ∷ others) → (Has shape others → position_or_len p others < length others) → cond (not b) (1 + position_or_len p others) 0 < suc (length others)
  by_test true test has rest = omega arith
  by_test false test (inl is) rest = let both : true ≡ false = sym passes ∙ (sym (ap p is) ∙ test) in absurd cc
  by_test false test (inr later) rest = omega (arith, rest later)

-- its place is the first of one that is the same, and so of itself
found : (shape : SelectorList) (shapes : List SelectorList) → Flagged shape → AllByRecursion Flagged shapes → Has shape shapes → object_under (enumerate_from 0 shapes) (position_or_len (same_shape shape) shapes) ≡ Some shape
found shape shapes mine flagged has =
    let place = position_or_len (same_shape shape) shapes in
    let inside = stands (same_shape shape) shape shapes (equal_shape shape) has in
    let same = passes_at_first (same_shape shape) shapes [] inside in
    let there : Flagged (get_or shapes place []) = All-get_or Flagged shapes place [] inside (All-from_recursion Flagged shapes flagged) in
    let is = same_is_equal shape (get_or shapes place []) mine there same in
    let from : 0 + place ≡ place = omega arith in
    subst (λ n. object_under (enumerate_from 0 shapes) n ≡ Some (get_or shapes place [])) from (numbered_is_held 0 shapes place [] inside) ∙ ap Some (sym is)

-- ---- the classifiers of specs

flagged_list : (spec : Spec) (kinds : List Kind) → Flagged (map (λ kind. selector_of_mask kind (mask_for spec kind)) kinds)
flagged_list spec [] = tt
flagged_list spec (kind ∷ kinds) = (refl, flagged_list spec kinds)

selectors_are_flagged : (spec : Spec) → Flagged (selectors_of spec)
unfolding selectors_of
selectors_are_flagged spec = flagged_list spec (kinds_of spec.flow)

all_flagged : (specs : List Spec) → AllByRecursion Flagged (map selectors_of specs)
all_flagged [] = tt
all_flagged (spec ∷ specs) = (selectors_are_flagged spec, all_flagged specs)

all_there : (specs : List Spec) → AllByRecursion (λ spec. Has (selectors_of spec) (map selectors_of specs)) specs
all_there [] = tt
all_there (spec ∷ specs) =
    (inl refl, each_more (λ other. Has (selectors_of other) (map selectors_of specs)) (λ other. Has (selectors_of other) (map selectors_of (spec ∷ specs))) (λ other has. inr has) specs (all_there specs))

-- the classifier of a spec is held under its number
abbrev pub HasClassifier : List SelectorList → Spec → Type 0
HasClassifier shapes spec = object_under (enumerate_from 0 shapes) (shape_number shapes spec) ≡ Some (selectors_of spec)

pub classifiers_found : (specs : List Spec) → AllByRecursion (HasClassifier (shapes_of specs)) specs
classifiers_found specs =
    let once = once_all Flagged (map selectors_of specs) (all_flagged specs) in
    each_more (λ spec. Has (selectors_of spec) (map selectors_of specs)) (HasClassifier (shapes_of specs)) (λ spec has. found (selectors_of spec) (shapes_of specs) (selectors_are_flagged spec) once (once_has (selectors_of spec) (map selectors_of specs) (selectors_are_flagged spec) (all_flagged specs) has)) specs (all_there specs)
