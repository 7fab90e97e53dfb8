-- Bytes tell shapes apart, and the first uses of shapes, one more spec at a time.
use Rattle.std.proofs.Common.{◌≡◌, ℕ, suc, ◌+◌, ◌<◌, ◌≤◌, ◌&&◌, ◌||◌, Bool, true, false, not, cond, eqb, List, [], ◌∷◌, ◌++◌, map, length, get_or, take, filter, Option, Some, None, refl, sym, ap, ◌∙◌, arith}
use Rattle.std.specs.Prelude.{⊤, bytes_eq, is_some, unwrap_or}
use Rattle.std.specs.BTreeMap.{BTreeMap, UpdatesBy}
use Rattle.std.specs.Cmp.Lexicographic.{slice_cmp}
use Rattle.std.specs.List.{list_any, position_from, position_or_len}
use Rattle.std.specs.Ordering.{nat_cmp}
use Rattle.std.proofs.lemmas.Bool.Decides.{Decides-eqb}
use Rattle.std.proofs.lemmas.Cmp.{nat_list_eq_equiv}
use Rattle.std.proofs.lemmas.List.{append-nil, append_assoc, get_or-map, length-append, length-map, take_all, take_more}
use Rattle.std.proofs.lemmas.List.Concat.{flat_map-append}
use Rattle.std.proofs.lemmas.List.Elements.{filter-append, filter_agree}
use Rattle.std.proofs.lemmas.Map.Text.{is_eq-slice_cmp}
use Rattle.std.proofs.lemmas.Slice.Eq.{bytes_eq-Decides}
use Rattle.arrayvec.specs.ArrayVec.{ArrayVec}
use Rattle.ff_headers.specs.Kinds.{kind_code, kind_of_code, kind_size}
use Rattle.ff_headers.specs.SelectorParts.{IsWhole, SelectorParts}
use Rattle.ff_headers.specs.Shapes.{codes_of}
use Rattle.ff_headers.specs.declared.kind.Kind.{Kind}
use Rattle.ff_headers.specs.declared.kind.Kind.TheVariants.{Eth, Ipv4, Ipv6, Tcp, Udp}
use Rattle.ntuple_text.specs.declared.spec.Spec.{Spec}
use Rattle.ntuple_compile.specs.Compiled.{SelectorList, same_masks, same_shape, shape_number, shapes_of}
use Rattle.ntuple_compile.specs.Selected.{mask_for, selector_of_mask, selectors_of}
use Rattle.ntuple_compile.specs.ShapeBytes.{IsNumbered, number_under, shape_bytes, spec_bytes, with_use}
use Rattle.ntuple_compile.specs.SpecFits.{kinds_of}
use Rattle.ntuple_compile.proofs.Bridge.{length-mask}

-- ---- bytes of shapes

bytes_eq-append : (xs bs cs ds : List ℕ) → length xs ≡ length bs → bytes_eq (xs ++ cs) (bs ++ ds) ≡ (bytes_eq xs bs && bytes_eq cs ds)
bytes_eq-append [] [] cs ds same = refl
bytes_eq-append [] (b ∷ bs) cs ds same = absurd (omega (arith, same))
bytes_eq-append (x ∷ xs) [] cs ds same = absurd (omega (arith, same))
bytes_eq-append (x ∷ xs) (b ∷ bs) cs ds same = by_test (eqb x b) (bytes_eq-append xs bs cs ds (omega (arith, same))) where
  by_test : (t : Bool) → bytes_eq (xs ++ cs) (bs ++ ds) ≡ (bytes_eq xs bs && bytes_eq cs ds) → (t && bytes_eq (xs ++ cs) (bs ++ ds)) ≡ ((t && bytes_eq xs bs) && bytes_eq cs ds)
  by_test true rest = rest
  by_test false rest = refl

code-back : (kind : Kind) → kind_of_code (kind_code kind) ≡ Some kind
code-back Eth = refl
code-back Ipv4 = refl
code-back Ipv6 = refl
code-back Tcp = refl
code-back Udp = refl

-- kinds with one type byte are one
same_kind : (a b : Kind) → kind_code a ≡ kind_code b → a ≡ b
same_kind a b same =
    let both : Some a ≡ Some b = sym (code-back a) ∙ ap kind_of_code same ∙ code-back b in
    cc

-- each mask has its header's size
abbrev AreWhole : SelectorList → Type 0
AreWhole [] = ⊤
AreWhole (s ∷ shape) = IsWhole s × AreWhole shape

regrouped : (codes mask masks rest : Bool) → (codes && masks) ≡ rest → (codes && (mask && masks)) ≡ (mask && rest)
regrouped true true masks rest same = same
regrouped true false masks rest same = refl
regrouped false true masks rest same = same
regrouped false false masks rest same = refl

-- shapes are the same exactly where their bytes are
same_shape-bytes : (a b : SelectorList) → AreWhole a → AreWhole b → same_shape a b ≡ bytes_eq (shape_bytes a) (shape_bytes b)
unfolding shape_bytes
same_shape-bytes [] [] wa wb = refl
same_shape-bytes [] (t ∷ b) wa wb = refl
same_shape-bytes (s ∷ a) [] wa wb = refl
same_shape-bytes (s ∷ a) (t ∷ b) wa wb = by_test (eqb (kind_code s.kind) (kind_code t.kind)) refl (same_shape-bytes a b wa.1 wb.1) where
  by_test : (e : Bool) → eqb (kind_code s.kind) (kind_code t.kind) ≡ e → same_shape a b ≡ bytes_eq (shape_bytes a) (shape_bytes b) → ((e && bytes_eq (codes_of a) (codes_of b)) && (bytes_eq s.mask t.mask && same_masks a b)) ≡ (e && bytes_eq (s.mask ++ shape_bytes a) (t.mask ++ shape_bytes b))
  by_test false is rest = refl
  by_test true is rest =
      let kinds = same_kind s.kind t.kind ((Decides-eqb (kind_code s.kind) (kind_code t.kind)).0 is) in
      let sizes : length s.mask ≡ length t.mask = wa.0 ∙ ap kind_size kinds ∙ sym wb.0 in
      regrouped (bytes_eq (codes_of a) (codes_of b)) (bytes_eq s.mask t.mask) (same_masks a b) (bytes_eq (shape_bytes a) (shape_bytes b)) rest ∙ sym (bytes_eq-append s.mask t.mask (shape_bytes a) (shape_bytes b) sizes)

selected_whole : (spec : Spec) (kinds : List Kind) → AreWhole (map (λ kind. selector_of_mask kind (mask_for spec kind)) kinds)
selected_whole spec [] = tt
selected_whole spec (kind ∷ kinds) = (length-mask spec kind, selected_whole spec kinds)

spec_whole : (spec : Spec) → AreWhole (selectors_of spec)
unfolding selectors_of
spec_whole spec = selected_whole spec (kinds_of spec.flow)

pub same_spec : (a b : Spec) → same_shape (selectors_of a) (selectors_of b) ≡ bytes_eq (spec_bytes a) (spec_bytes b)
same_spec a b = same_shape-bytes (selectors_of a) (selectors_of b) (spec_whole a) (spec_whole b)

-- ---- first uses

-- the specs whose shape no spec before them has
unfoldable pub first_uses : List Spec → List Spec
first_uses [] = []
first_uses (spec ∷ specs) =
    spec ∷ filter (λ other. not (bytes_eq (spec_bytes spec) (spec_bytes other))) (first_uses specs)

-- a spec whose shape another one has
abbrev differs : Spec → Spec → Bool
differs spec other = not (bytes_eq (spec_bytes spec) (spec_bytes other))

-- one of the specs has this shape
abbrev has : Spec → List Spec → Bool
has spec firsts = list_any (λ first. bytes_eq (spec_bytes spec) (spec_bytes first)) firsts

kept_of_map : (p : SelectorList → Bool) (specs : List Spec) → filter p (map selectors_of specs) ≡ map selectors_of (filter (λ spec. p (selectors_of spec)) specs)
kept_of_map p [] = refl
kept_of_map p (spec ∷ specs) = by_test (p (selectors_of spec)) (kept_of_map p specs) where
  by_test : (t : Bool) → filter p (map selectors_of specs) ≡ map selectors_of (filter (λ s. p (selectors_of s)) specs) → cond t (selectors_of spec ∷ filter p (map selectors_of specs)) (filter p (map selectors_of specs)) ≡ map selectors_of (cond t (spec ∷ filter (λ s. p (selectors_of s)) specs) (filter (λ s. p (selectors_of s)) specs))
  by_test true rest = ap (λ t. selectors_of spec ∷ t) rest
  by_test false rest = rest

-- the shapes of the first uses are the shapes, each once
pub first_shapes : (specs : List Spec) → map selectors_of (first_uses specs) ≡ shapes_of specs
unfolding first_uses
first_shapes [] = refl
first_shapes (spec ∷ specs) =
    let p : SelectorList → Bool = λ other. not (same_shape (selectors_of spec) other) in
    let alike = filter_agree (λ (other : Spec). p (selectors_of other)) (differs spec) (λ other. ap not (same_spec spec other)) (first_uses specs) in
    ap (λ rest. selectors_of spec ∷ rest) (ap (map selectors_of) (sym alike) ∙ sym (kept_of_map p (first_uses specs)) ∙ ap (filter p) (first_shapes specs))

-- a spec is found among the first uses also where those of another shape are left out
has_kept : (spec other : Spec) → bytes_eq (spec_bytes spec) (spec_bytes other) ≡ false → (firsts : List Spec) → has spec (filter (differs other) firsts) ≡ has spec firsts
has_kept spec other apart [] = refl
has_kept spec other apart (first ∷ firsts) = by_test (bytes_eq (spec_bytes other) (spec_bytes first)) refl (has_kept spec other apart firsts) where
  by_test : (t : Bool) → bytes_eq (spec_bytes other) (spec_bytes first) ≡ t → has spec (filter (differs other) firsts) ≡ has spec firsts → has spec (cond (not t) (first ∷ filter (differs other) firsts) (filter (differs other) firsts)) ≡ (bytes_eq (spec_bytes spec) (spec_bytes first) || has spec firsts)
  by_test false is rest = ap (λ t. bytes_eq (spec_bytes spec) (spec_bytes first) || t) rest
  by_test true is rest =
      let laws = nat_list_eq_equiv in
      let misses : bytes_eq (spec_bytes spec) (spec_bytes first) ≡ false = laws.symm (spec_bytes spec) (spec_bytes first) ∙ sym (laws.congr (spec_bytes other) (spec_bytes first) (spec_bytes spec) is) ∙ laws.symm (spec_bytes other) (spec_bytes spec) ∙ apart in
      rest ∙ sym (ap (λ t. t || has spec firsts) misses)

-- one spec more
pub first_uses-push : (specs : List Spec) (spec : Spec) → first_uses (specs ++ spec ∷ []) ≡ with_use (first_uses specs) spec
unfolding first_uses
first_uses-push [] spec = refl
first_uses-push (s ∷ specs) spec = ap (λ rest. s ∷ filter (differs s) rest) (first_uses-push specs spec) ∙ by_shape (bytes_eq (spec_bytes spec) (spec_bytes s)) refl (has spec (first_uses specs)) refl where
  by_shape : (t : Bool) → bytes_eq (spec_bytes spec) (spec_bytes s) ≡ t → (h : Bool) → has spec (first_uses specs) ≡ h → (s ∷ filter (differs s) (cond h (first_uses specs) (first_uses specs ++ spec ∷ []))) ≡ cond (t || has spec (filter (differs s) (first_uses specs))) (s ∷ filter (differs s) (first_uses specs)) ((s ∷ filter (differs s) (first_uses specs)) ++ spec ∷ [])
  by_shape true is true there = refl
  by_shape true is false there =
      let back : bytes_eq (spec_bytes s) (spec_bytes spec) ≡ true = nat_list_eq_equiv.symm (spec_bytes s) (spec_bytes spec) ∙ is in
      ap (λ rest. s ∷ rest) (filter-append (differs s) (first_uses specs) (spec ∷ []) ∙ rw back (append-nil (filter (differs s) (first_uses specs))))
  by_shape false is true there = rw (has_kept spec s is (first_uses specs) ∙ there) refl
  by_shape false is false there =
      let back : bytes_eq (spec_bytes s) (spec_bytes spec) ≡ false = nat_list_eq_equiv.symm (spec_bytes s) (spec_bytes spec) ∙ is in
      rw (has_kept spec s is (first_uses specs) ∙ there) (ap (λ rest. s ∷ rest) (filter-append (differs s) (first_uses specs) (spec ∷ []) ∙ rw back refl))

-- ---- places

pub any_is_found : {X : Type 0} (t : X → Bool) (from : ℕ) (xs : List X) → is_some (position_from t from xs) ≡ list_any t xs
any_is_found t from [] = refl
any_is_found t from (x ∷ xs) = by_test (t x) (any_is_found t (from + 1) xs) where
  by_test : (b : Bool) → is_some (position_from t (from + 1) xs) ≡ list_any t xs → is_some (cond b (Some from) (position_from t (from + 1) xs)) ≡ (b || list_any t xs)
  by_test true rest = refl
  by_test false rest = rest

-- where an element stands once one more is behind the others
abbrev place_after : Option ℕ → Bool → ℕ → Option ℕ
place_after (Some place) here end = Some place
place_after None here end = cond here (Some end) None

position_from-push : {X : Type 0} (t : X → Bool) (from : ℕ) (xs : List X) (x : X) → position_from t from (xs ++ x ∷ []) ≡ place_after (position_from t from xs) (t x) (from + length xs)
position_from-push t from [] x = ap (λ end. cond (t x) (Some end) None) (omega arith)
position_from-push t from (y ∷ ys) x = by_test (t y) (position_from-push t (from + 1) ys x) where
  by_test : (b : Bool) → position_from t (from + 1) (ys ++ x ∷ []) ≡ place_after (position_from t (from + 1) ys) (t x) (from + 1 + length ys) → cond b (Some from) (position_from t (from + 1) (ys ++ x ∷ [])) ≡ place_after (cond b (Some from) (position_from t (from + 1) ys)) (t x) (from + suc (length ys))
  by_test true rest = refl
  by_test false rest =
      let end : from + 1 + length ys ≡ from + suc (length ys) = omega arith in
      rest ∙ ap (place_after (position_from t (from + 1) ys) (t x)) end

-- the place of a spec, or the length
pub number_of : (spec : Spec) (from : ℕ) (firsts : List Spec) → unwrap_or (position_from (λ first. bytes_eq (spec_bytes spec) (spec_bytes first)) from firsts) (from + length firsts) ≡ from + shape_number (map selectors_of firsts) spec
number_of spec from [] = refl
number_of spec from (first ∷ firsts) = by_test (bytes_eq (spec_bytes spec) (spec_bytes first)) (same_shape (selectors_of spec) (selectors_of first)) (same_spec spec first) (number_of spec (from + 1) firsts) where
  by_test : (b c : Bool) → c ≡ b → unwrap_or (position_from (λ f. bytes_eq (spec_bytes spec) (spec_bytes f)) (from + 1) firsts) (from + 1 + length firsts) ≡ from + 1 + shape_number (map selectors_of firsts) spec → unwrap_or (cond b (Some from) (position_from (λ f. bytes_eq (spec_bytes spec) (spec_bytes f)) (from + 1) firsts)) (from + suc (length firsts)) ≡ from + cond (not c) (1 + shape_number (map selectors_of firsts) spec) 0
  by_test true c is rest = rw is (omega arith)
  by_test false c is rest =
      let end : from + 1 + length firsts ≡ from + suc (length firsts) = omega arith in
      let next : from + 1 + shape_number (map selectors_of firsts) spec ≡ from + (1 + shape_number (map selectors_of firsts) spec) = omega arith in
      rw is (ap (unwrap_or (position_from (λ f. bytes_eq (spec_bytes spec) (spec_bytes f)) (from + 1) firsts)) (sym end) ∙ rest ∙ next)

pub number_is_few : (t : SelectorList → Bool) (shapes : List SelectorList) → position_or_len t shapes ≤ length shapes
number_is_few t [] = omega arith
number_is_few t (shape ∷ shapes) = by_test (t shape) (number_is_few t shapes) where
  by_test : (b : Bool) → position_or_len t shapes ≤ length shapes → cond (not b) (1 + position_or_len t shapes) 0 ≤ suc (length shapes)
  by_test true rest = omega arith
  by_test false rest = omega (arith, rest)

-- ---- the map

-- what the map has under bytes once a shape that it lacked has the next number
pub placed-push : (firsts : List Spec) (spec : Spec) (before after : List ℕ → Option ℕ) → ((bytes : List ℕ) → before bytes ≡ position_from (λ first. bytes_eq bytes (spec_bytes first)) 0 firsts) → before (spec_bytes spec) ≡ None → ((bytes : List ℕ) → after bytes ≡ cond (bytes_eq (spec_bytes spec) bytes) (Some (length firsts)) (before bytes)) → (bytes : List ℕ) → after bytes ≡ position_from (λ first. bytes_eq bytes (spec_bytes first)) 0 (firsts ++ spec ∷ [])
placed-push firsts spec before after placed absent updated bytes =
    updated bytes ∙ by_test (bytes_eq (spec_bytes spec) bytes) refl ∙ sym (position_from-push (λ first. bytes_eq bytes (spec_bytes first)) 0 firsts spec) where
      none_there : (o : Option ℕ) → place_after o false (0 + length firsts) ≡ o
      none_there None = refl
      none_there (Some place) = refl

      by_test : (b : Bool) → bytes_eq (spec_bytes spec) bytes ≡ b → cond b (Some (length firsts)) (before bytes) ≡ place_after (position_from (λ first. bytes_eq bytes (spec_bytes first)) 0 firsts) (bytes_eq bytes (spec_bytes spec)) (0 + length firsts)
      by_test true is =
          let same : spec_bytes spec ≡ bytes = (bytes_eq-Decides (spec_bytes spec) bytes).0 is in
          let back : bytes_eq bytes (spec_bytes spec) ≡ true = nat_list_eq_equiv.symm bytes (spec_bytes spec) ∙ is in
          let missing : position_from (λ first. bytes_eq bytes (spec_bytes first)) 0 firsts ≡ None = sym (placed bytes) ∙ ap before (sym same) ∙ absent in
          let end : length firsts ≡ 0 + length firsts = omega arith in
          rw (missing, back) (ap Some end)
      by_test false is =
          let back : bytes_eq bytes (spec_bytes spec) ≡ false = nat_list_eq_equiv.symm bytes (spec_bytes spec) ∙ is in
          rw back (placed bytes ∙ sym (none_there (position_from (λ first. bytes_eq bytes (spec_bytes first)) 0 firsts)))

pub numbers-insert : (before after : BTreeMap (ArrayVec ℕ) ℕ) (key : ArrayVec ℕ) (number : ℕ) → UpdatesBy (λ v w. slice_cmp nat_cmp v.items w.items) (λ w. slice_cmp nat_cmp key.items w.items) before after (Some number) → (bytes : List ℕ) → number_under after bytes ≡ cond (bytes_eq key.items bytes) (Some number) (number_under before bytes)
numbers-insert before after key number updates bytes = updates.0 (record { items = bytes }) ∙ ap (λ t. cond t (Some number) (number_under before bytes)) (is_eq-slice_cmp key.items bytes)

-- a shape without a number is new
pub missing_is_new : (firsts : List Spec) (spec : Spec) (number : List ℕ → Option ℕ) (found : Bool) → IsNumbered firsts number → is_some (number (spec_bytes spec)) ≡ found → list_any (λ first. bytes_eq (spec_bytes spec) (spec_bytes first)) firsts ≡ found
missing_is_new firsts spec number found numbered is =
    sym (any_is_found (λ first. bytes_eq (spec_bytes spec) (spec_bytes first)) 0 firsts) ∙ ap is_some (sym (numbered.placed (spec_bytes spec))) ∙ is

pub none_from_test : (o : Option ℕ) → is_some o ≡ false → o ≡ None
none_from_test None is = refl
none_from_test (Some place) is = cc

pub number_found : (firsts : List Spec) (spec : Spec) (number : List ℕ → Option ℕ) → IsNumbered firsts number → unwrap_or (number (spec_bytes spec)) (length firsts) ≡ shape_number (map selectors_of firsts) spec
number_found firsts spec number numbered =
    let end : length firsts ≡ 0 + length firsts = omega arith in
    let place : 0 + shape_number (map selectors_of firsts) spec ≡ shape_number (map selectors_of firsts) spec = omega arith in
    ap (λ o. unwrap_or o (length firsts)) (numbered.placed (spec_bytes spec)) ∙ ap (unwrap_or (position_from (λ first. bytes_eq (spec_bytes spec) (spec_bytes first)) 0 firsts)) end ∙ number_of spec 0 firsts ∙ place

pub number_below : (firsts : List Spec) (spec : Spec) → shape_number (map selectors_of firsts) spec ≤ length firsts
number_below firsts spec = omega (arith, number_is_few (same_shape (selectors_of spec)) (map selectors_of firsts), length-map firsts selectors_of)

pub numbered_none : (number : List ℕ → Option ℕ) → ((bytes : List ℕ) → number bytes ≡ None) → IsNumbered [] number
numbered_none number none = record { placed = none; given = λ k d inside. absurd (omega (arith, inside)) }

length-with_use : (firsts : List Spec) (spec : Spec) → length (with_use firsts spec) ≤ length firsts + 1
length-with_use firsts spec = by_test (list_any (λ first. bytes_eq (spec_bytes spec) (spec_bytes first)) firsts) where
  by_test : (t : Bool) → length (cond t firsts (firsts ++ spec ∷ [])) ≤ length firsts + 1
  by_test true = omega arith
  by_test false = omega (arith, length-append firsts (spec ∷ []))

-- the first uses of one spec more
first_uses_more : (specs : List Spec) (i : ℕ) (d : Spec) → i < length specs → first_uses (take (i + 1) specs) ≡ with_use (first_uses (take i specs)) (get_or specs i d)
first_uses_more specs i d inside = ap first_uses (take_more specs i d inside) ∙ first_uses-push (take i specs) (get_or specs i d)

pub used_more : (specs : List Spec) (i : ℕ) (d : Spec) (old new : List Spec) → i < length specs → new ≡ with_use old (get_or specs i d) → old ≡ first_uses (take i specs) → (new ≡ first_uses (take (i + 1) specs)) × (length new ≤ length old + 1)
used_more specs i d old new inside used was =
    (used ∙ ap (λ firsts. with_use firsts (get_or specs i d)) was ∙ sym (first_uses_more specs i d inside), omega (arith, ap length used, length-with_use old (get_or specs i d)))

pub shapes_of_all : (specs firsts : List Spec) (i : ℕ) → length specs ≤ i → firsts ≡ first_uses (take i specs) → map selectors_of firsts ≡ shapes_of specs
shapes_of_all specs firsts i past is =
    ap (map selectors_of) (is ∙ ap first_uses (take_all i specs past)) ∙ first_shapes specs

-- ---- one selector more

shape_bytes_more : (shape : SelectorList) (i : ℕ) (s : SelectorParts) → i < length shape → s ≡ get_or shape i s → shape_bytes (take (i + 1) shape) ≡ (shape_bytes (take i shape) ++ kind_code s.kind ∷ []) ++ s.mask
unfolding shape_bytes
shape_bytes_more shape i s inside is =
    ap shape_bytes (take_more shape i s inside ∙ ap (λ t. take i shape ++ t ∷ []) (sym is)) ∙ flat_map-append (λ t. kind_code t.kind ∷ t.mask) (take i shape) (s ∷ []) ∙ ap (λ t. shape_bytes (take i shape) ++ kind_code s.kind ∷ t) (append-nil s.mask) ∙ sym (append_assoc (shape_bytes (take i shape)) (kind_code s.kind ∷ []) s.mask)

-- the bytes of one header more
pub bytes_more : (spec : Spec) (i : ℕ) (d : Kind) → i < length (kinds_of spec.flow) → let kind = get_or (kinds_of spec.flow) i d in shape_bytes (take (i + 1) (selectors_of spec)) ≡ (shape_bytes (take i (selectors_of spec)) ++ kind_code kind ∷ []) ++ mask_for spec kind
unfolding selectors_of
bytes_more spec i d inside =
    let kinds = kinds_of spec.flow in
    let f : Kind → SelectorParts = λ kind. selector_of_mask kind (mask_for spec kind) in
    let s = f (get_or kinds i d) in
    shape_bytes_more (map f kinds) i s (omega (arith, inside, length-map kinds f)) (sym (get_or-map f kinds i d s inside))

pub bytes_none : (spec : Spec) → shape_bytes (take 0 (selectors_of spec)) ≡ []
unfolding shape_bytes
bytes_none spec = refl

pub bytes_all : (spec : Spec) (i : ℕ) → length (kinds_of spec.flow) ≤ i → shape_bytes (take i (selectors_of spec)) ≡ spec_bytes spec
unfolding selectors_of
bytes_all spec i past =
    let f : Kind → SelectorParts = λ kind. selector_of_mask kind (mask_for spec kind) in
    ap shape_bytes (take_all i (map f (kinds_of spec.flow)) (omega (arith, past, length-map (kinds_of spec.flow) f)))

pub few_bytes : (kind : Kind) → kind_size kind ≤ 40
few_bytes Eth = omega arith
few_bytes Ipv4 = omega arith
few_bytes Ipv6 = omega arith
few_bytes Tcp = omega arith
few_bytes Udp = omega arith
