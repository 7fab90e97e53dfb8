-- A header that is read is a good header, and a good header is read.
use Rattle.std.proofs.Common.{◌≡◌, ℕ, ◌+◌, ◌≤◌, Bool, true, false, cond, List, ◌++◌, length, take, Option, Some, None, Ok, refl, ap, sym, ◌∙◌, subst, arith, inl, inr, ◌⊎◌, le-ltb}
use Rattle.std.specs.Str.{bytes_eq}
use Rattle.std.proofs.lemmas.List.{take-append-le, length-append}
use Rattle.std.proofs.lemmas.Slice.Eq.{bytes_eq-Decides}
use Rattle.std.proofs.lemmas.Bool.{cond-false, eqb-true, eq-eqb}
use Rattle.byte_numbers.proofs.NumberLaws.{HaveSame-front, le16_at-same, le32_at-same, be16_at-same, be32_at-same}
use Rattle.capture.specs.declared.header.CaptureHeader.{CaptureHeader}
use Rattle.capture.specs.FileHeaders.{number16_at, number32_at, magic, kind_of_magic, is_version_2_4, link_type, checked_header, file_header, IsHeader}
use Rattle.capture.proofs.Choices.{test-way, fault_if-ok, fault_unless-ok, ok_same}

-- numbers within the front
number16_at-front : (big : Bool) (front rest : List ℕ) (place : ℕ) → place + 2 ≤ length front
    → number16_at big (front ++ rest) place ≡ number16_at big front place
unfolding number16_at
number16_at-front false front rest place within =
    le16_at-same front (front ++ rest) place (HaveSame-front front rest place 2 within)
number16_at-front true front rest place within =
    be16_at-same front (front ++ rest) place (HaveSame-front front rest place 2 within)

pub number32_at-front : (big : Bool) (front rest : List ℕ) (place : ℕ) → place + 4 ≤ length front
    → number32_at big (front ++ rest) place ≡ number32_at big front place
unfolding number32_at
number32_at-front false front rest place within =
    le32_at-same front (front ++ rest) place (HaveSame-front front rest place 4 within)
number32_at-front true front rest place within =
    be32_at-same front (front ++ rest) place (HaveSame-front front rest place 4 within)

pub version-front : (big : Bool) (header rest : List ℕ) → 24 ≤ length header → is_version_2_4 big (header ++ rest) ≡ is_version_2_4 big header
unfolding is_version_2_4
version-front big header rest long = rw (number16_at-front big header rest 4 (omega arith), number16_at-front big header rest 6 (omega arith)) refl

pub link-front : (big : Bool) (header rest : List ℕ) → 24 ≤ length header → link_type big (header ++ rest) ≡ link_type big header
unfolding link_type
link-front big header rest long = rw (number32_at-front big header rest 20 (omega arith)) refl

-- the four magics, each of its kind
magic-known : (big nanos : Bool) → kind_of_magic (magic big nanos) ≡ Some (record { big = big; nanos = nanos })
unfolding kind_of_magic
magic-known false false = refl
magic-known false true = refl
magic-known true false = refl
magic-known true true = refl

magic-kind : (four : List ℕ) (big nanos : Bool) (header : CaptureHeader) → bytes_eq four (magic big nanos) ≡ true → Some (record { big = big; nanos = nanos }) ≡ Some header → four ≡ magic header.big header.nanos
magic-kind four big nanos header same is =
    let one : CaptureHeader = record { big = big; nanos = nanos } in
    let kinds : one ≡ header = cc in
    (bytes_eq-Decides four (magic big nanos)).0 same ∙ ap (λ k. magic k.big k.nanos) kinds

-- one of the magics, or one of the others
next-kind : (four : List ℕ) (big nanos : Bool) (others : Option CaptureHeader) (header : CaptureHeader) → cond (bytes_eq four (magic big nanos)) (Some (record { big = big; nanos = nanos })) others ≡ Some header → (four ≡ magic header.big header.nanos) ⊎ (others ≡ Some header)
next-kind four big nanos others header known =
    let way = test-way (bytes_eq four (magic big nanos)) (Some (record { big = big; nanos = nanos })) others (Some header) known in
    elim way [ inl hit ↦ inl (magic-kind four big nanos header hit.0 hit.1) | inr miss ↦ inr miss.1 ]

no_kind : (header : CaptureHeader) → None ≡ Some header → ⊥
no_kind header same = cc

kind-magic : (four : List ℕ) (header : CaptureHeader) → kind_of_magic four ≡ Some header → four ≡ magic header.big header.nanos
unfolding kind_of_magic
kind-magic four header known =
    let first = next-kind four false false _ header known in
    elim first [
      | inl hit ↦ hit
      | inr miss ↦ let second = next-kind four false true _ header miss in
          elim second [
            | inl hit ↦ hit
            | inr miss2 ↦ let third = next-kind four true false _ header miss2 in
                elim third [
                  | inl hit ↦ hit
                  | inr miss3 ↦ let fourth = next-kind four true true _ header miss3 in
                      elim fourth [ inl hit ↦ hit | inr miss4 ↦ absurd (no_kind header miss4) ]
                ]
          ]
    ]

checked-ok : (bytes : List ℕ) (kind : Option CaptureHeader) (header : CaptureHeader) → checked_header bytes kind ≡ Ok header → (kind ≡ Some header) × (is_version_2_4 header.big bytes ≡ true) × (link_type header.big bytes ≡ 1)
unfolding checked_header
checked-ok bytes None header good = absurd (cc)
checked-ok bytes (Some kind) header good =
    let version = fault_unless-ok _ _ _ _ good in
    let link = fault_unless-ok _ _ _ _ version.1 in
    let same = ok_same (Ok kind) kind header refl link.1 in
    (ap Some same, subst (λ k. is_version_2_4 k.big bytes ≡ true) same version.0, subst (λ k. link_type k.big bytes ≡ 1) same (eqb-true _ 1 link.0))

-- a header that is read
pub file_header-good : (header rest : List ℕ) (kind : CaptureHeader) → length header ≡ 24 → file_header (header ++ rest) ≡ Ok kind → IsHeader kind header
unfolding file_header
file_header-good header rest kind size good =
    let long = fault_if-ok _ _ _ _ good in
    let checked = checked-ok (header ++ rest) (kind_of_magic (take 4 (header ++ rest))) kind long.1 in
    record {
      size = size;
      magic = sym (take-append-le 4 header rest (omega arith)) ∙ kind-magic (take 4 (header ++ rest)) kind checked.0;
      version = sym (version-front kind.big header rest (omega (arith, size))) ∙ checked.1;
      link_type = sym (link-front kind.big header rest (omega (arith, size))) ∙ checked.2;
    }

checked-good : (bytes : List ℕ) (kind : CaptureHeader) → is_version_2_4 kind.big bytes ≡ true → link_type kind.big bytes ≡ 1 → checked_header bytes (Some kind) ≡ Ok kind
unfolding checked_header
checked-good bytes kind version link = rw version (rw (eq-eqb _ 1 link) refl)

-- a good header is read
pub good-file_header : (header rest : List ℕ) (kind : CaptureHeader) → IsHeader kind header → file_header (header ++ rest) ≡ Ok kind
unfolding file_header
good-file_header header rest kind good =
    let size = good.size in
    let known = ap kind_of_magic (take-append-le 4 header rest (omega arith) ∙ good.magic) ∙ magic-known kind.big kind.nanos in
    cond-false _ _ _ (le-ltb (length (header ++ rest)) 24 (omega (arith, length-append header rest))) ∙ (ap (checked_header (header ++ rest)) known ∙ checked-good (header ++ rest) kind (version-front kind.big header rest (omega (arith, size)) ∙ good.version) (link-front kind.big header rest (omega (arith, size)) ∙ good.link_type))
