-- Specs that are drawn have three shapes, so a list has no more of them.
use Rattle.std.proofs.Common.{◌≡◌, ℕ, ◌+◌, ◌≤◌, ◌⊎◌, Bool, true, false, not, cond, List, [], ◌∷◌, map, length, None, refl, sym, ap, subst, inl, inr, ⊎_elim, arith}
use Rattle.std.specs.Prelude.{◌==◌, filter}
use Rattle.std.specs.List.{AllByRecursion}
use Rattle.ff_headers.specs.Fields.{is_allowed}
use Rattle.ntuple_text.specs.declared.spec.Spec.{Spec}
use Rattle.ntuple_text.specs.declared.spec.TableDo.{TableDo}
use Rattle.ntuple_text.specs.declared.spec.TableDo.TheVariants.{Drop}
use Rattle.ntuple_compile.specs.Compiled.{SelectorList, each_once, same_shape, shapes_of, spec_fault}
use Rattle.ntuple_compile.specs.Selected.{mask_for, selectors_of}
use Rattle.generated_load.specs.Draws.{draw}
use Rattle.generated_load.specs.DrawnTables.{drawn_criteria, drawn_spec, ip_criteria, load_caps, spec_with, tcp_criteria, udp_criteria}

-- ---- the three shapes

-- those of a spec at location 0
abbrev udp_shape : SelectorList
udp_shape = selectors_of (spec_with (udp_criteria 0).1 Drop 0)

abbrev tcp_shape : SelectorList
tcp_shape = selectors_of (spec_with (tcp_criteria 0).1 Drop 0)

abbrev ip_shape : SelectorList
ip_shape = selectors_of (spec_with (ip_criteria 0).1 Drop 0)

-- a shape is one of the three
abbrev IsKnown : SelectorList → Type 0
IsKnown shape = (shape ≡ udp_shape) ⊎ (shape ≡ tcp_shape) ⊎ (shape ≡ ip_shape)

-- the device has its selectors, and its shape is known
pub record IsFine (spec : Spec) : Type 0 where
  pub supported : spec_fault load_caps spec ≡ None
  pub known : IsKnown (selectors_of spec)

udp-fine : (x loc : ℕ) (action : TableDo) → IsFine (spec_with (udp_criteria x).1 action loc)
unfolding udp_criteria selectors_of mask_for is_allowed
udp-fine x loc action = record { supported = refl; known = inl refl }

tcp-fine : (x loc : ℕ) (action : TableDo) → IsFine (spec_with (tcp_criteria x).1 action loc)
unfolding tcp_criteria selectors_of mask_for is_allowed
tcp-fine x loc action = record { supported = refl; known = inr (inl refl) }

ip-fine : (x loc : ℕ) (action : TableDo) → IsFine (spec_with (ip_criteria x).1 action loc)
unfolding ip_criteria selectors_of mask_for is_allowed
ip-fine x loc action = record { supported = refl; known = inr (inr refl) }

criteria-fine : (x loc : ℕ) (action : TableDo) → IsFine (spec_with (drawn_criteria x).1 action loc)
unfolding drawn_criteria
criteria-fine x loc action = by_test ((draw x 3).1 == 0) ((draw x 3).1 == 1) where
  by_test : (first second : Bool) → IsFine (spec_with (cond first (udp_criteria (draw x 3).0) (cond second (tcp_criteria (draw x 3).0) (ip_criteria (draw x 3).0))).1 action loc)
  by_test true second = udp-fine (draw x 3).0 loc action
  by_test false true = tcp-fine (draw x 3).0 loc action
  by_test false false = ip-fine (draw x 3).0 loc action

pub spec-fine : (loc x : ℕ) → IsFine (drawn_spec loc x).1
unfolding drawn_spec
spec-fine loc x = criteria-fine x loc _

-- ---- how many shapes a list has

-- how many shapes of a list are this one
abbrev hits : SelectorList → List SelectorList → ℕ
hits shape [] = 0
hits shape (one ∷ rest) = cond (same_shape shape one) 1 0 + hits shape rest

-- leaving out shapes makes it no more
hits-filter : (shape : SelectorList) (keep : SelectorList → Bool) (list : List SelectorList) → hits shape (filter keep list) ≤ hits shape list
hits-filter shape keep [] = omega arith
hits-filter shape keep (one ∷ rest) = by_test (keep one) (hits-filter shape keep rest) where
  by_test : (b : Bool) → hits shape (filter keep rest) ≤ hits shape rest → hits shape (cond b (one ∷ filter keep rest) (filter keep rest)) ≤ hits shape (one ∷ rest)
  by_test true h = omega (arith, h)
  by_test false h = omega (arith, h)

-- none is left where all that are this one are left out
hits-none : (shape : SelectorList) (list : List SelectorList) → hits shape (filter (λ one. not (same_shape shape one)) list) ≡ 0
hits-none shape [] = refl
hits-none shape (one ∷ rest) = by_test (same_shape shape one) refl (hits-none shape rest) where
  by_test : (b : Bool) → same_shape shape one ≡ b → hits shape (filter (λ other. not (same_shape shape other)) rest) ≡ 0 → hits shape (cond (not b) (one ∷ filter (λ other. not (same_shape shape other)) rest) (filter (λ other. not (same_shape shape other)) rest)) ≡ 0
  by_test true is h = h
  by_test false is h = rw is (omega (arith, h))

all-filter : {A : Type 0} (P : A → Type 0) (keep : A → Bool) (list : List A) → AllByRecursion P list → AllByRecursion P (filter keep list)
all-filter P keep [] all = tt
all-filter P keep (one ∷ rest) all = by_test (keep one) (all-filter P keep rest all.1) where
  by_test : (b : Bool) → AllByRecursion P (filter keep rest) → AllByRecursion P (cond b (one ∷ filter keep rest) (filter keep rest))
  by_test true h = (all.0, h)
  by_test false h = h

once-known : (list : List SelectorList) → AllByRecursion IsKnown list → AllByRecursion IsKnown (each_once list)
once-known [] all = tt
once-known (one ∷ rest) all = (all.0, all-filter IsKnown (λ other. not (same_shape one other)) (each_once rest) (once-known rest all.1))

-- a known shape is this one or another
abbrev IsApart : SelectorList → Type 0
IsApart shape = (one : SelectorList) → IsKnown one → (same_shape shape one ≡ false) ⊎ (one ≡ shape)

udp-apart : IsApart udp_shape
unfolding udp_criteria tcp_criteria ip_criteria selectors_of mask_for
udp-apart one (inl is) = inr is
udp-apart one (inr (inl is)) = inl (ap (same_shape udp_shape) is)
udp-apart one (inr (inr is)) = inl (ap (same_shape udp_shape) is)

tcp-apart : IsApart tcp_shape
unfolding udp_criteria tcp_criteria ip_criteria selectors_of mask_for
tcp-apart one (inl is) = inl (ap (same_shape tcp_shape) is)
tcp-apart one (inr (inl is)) = inr is
tcp-apart one (inr (inr is)) = inl (ap (same_shape tcp_shape) is)

ip-apart : IsApart ip_shape
unfolding udp_criteria tcp_criteria ip_criteria selectors_of mask_for
ip-apart one (inl is) = inl (ap (same_shape ip_shape) is)
ip-apart one (inr (inl is)) = inl (ap (same_shape ip_shape) is)
ip-apart one (inr (inr is)) = inr is

at_most_one : (b : Bool) → cond b 1 0 ≤ 1
at_most_one true = omega arith
at_most_one false = omega arith

single-same : (shape one : SelectorList) (rest : List SelectorList) → one ≡ shape → hits shape (one ∷ filter (λ other. not (same_shape one other)) rest) ≤ 1
single-same shape one rest is =
    let P : SelectorList → Type 0 = λ s. hits shape (s ∷ filter (λ other. not (same_shape s other)) rest) ≤ 1 in
    let here : P shape = omega (arith, at_most_one (same_shape shape shape), hits-none shape rest) in
    subst P (sym is) here

-- of the shapes, each once, no more than one is this one
single : (shape : SelectorList) → IsApart shape → (list : List SelectorList) → AllByRecursion IsKnown list → hits shape (each_once list) ≤ 1
single shape apart [] all = omega arith
single shape apart (one ∷ rest) all =
    ⊎_elim
    (λ other. rw other (omega (arith, hits-filter shape (λ other. not (same_shape one other)) (each_once rest), single shape apart rest all.1)))
    (λ is. single-same shape one (each_once rest) is)
    (apart one all.0)

-- a known shape is one of the three
known-once : (one : SelectorList) → IsKnown one → 1 ≤ cond (same_shape udp_shape one) 1 0 + cond (same_shape tcp_shape one) 1 0 + cond (same_shape ip_shape one) 1 0
unfolding udp_criteria tcp_criteria ip_criteria selectors_of mask_for
known-once one (inl is) = rw is (omega arith)
known-once one (inr (inl is)) = rw is (omega arith)
known-once one (inr (inr is)) = rw is (omega arith)

covered : (list : List SelectorList) → AllByRecursion IsKnown list → length list ≤ hits udp_shape list + hits tcp_shape list + hits ip_shape list
covered [] all = omega arith
covered (one ∷ rest) all = omega (arith, known-once one all.0, covered rest all.1)

shapes-known : (specs : List Spec) → AllByRecursion IsFine specs → AllByRecursion IsKnown (map selectors_of specs)
shapes-known [] all = tt
shapes-known (spec ∷ specs) all = (all.0.known, shapes-known specs all.1)

pub few_shapes : (specs : List Spec) → AllByRecursion IsFine specs → length (shapes_of specs) ≤ 3
few_shapes specs all =
    let list = map selectors_of specs in
    let known = shapes-known specs all in
    omega (arith, covered (each_once list) (once-known list known), single udp_shape udp-apart list known, single tcp_shape tcp-apart list known, single ip_shape ip-apart list known)
