-- The counts of the rules that name an id, where a rule is put or dropped.
use Rattle.std.proofs.Common.{◌≡◌, ℕ, ◌+◌, ◌<◌, ◌≤◌, ◌^◌, cond, eqb, List, length, Option, ap, ◌∙◌, arith, count_by}
use Rattle.std.specs.Prelude.{Bool}
use Rattle.std.proofs.lemmas.Bool.Decides.{nat_tests}
use Rattle.std.proofs.lemmas.List.Sums.{count_by-le-length}
use Rattle.ff_headers.specs.RuleParts.{RuleParts}
use Rattle.ff_headers.specs.Objects.{object_under, IsById}
use Rattle.ff_headers.specs.Changes.{put, without}
use Rattle.ff_store.specs.Counts.{one_if}
use Rattle.ff_store.proofs.EntryLemmas.{count-put, count-without}

one_for_itself : (q : ℕ) → cond {A = ℕ} (eqb q q) 1 0 ≡ 1
one_for_itself q = grind (arith, nat_tests)

-- the rules are counted by what they name, a group or a classifier
module _ (name : RuleParts → ℕ) where
  -- whether a rule names an id
  abbrev names : ℕ → RuleParts → Bool
  names q rule = eqb (name rule) q

  abbrev naming : List (ℕ × RuleParts) → ℕ → ℕ
  naming rules q = count_by (λ entry. eqb (name entry.1) q) rules

  module _ (rules : List (ℕ × RuleParts)) (id : ℕ) (stood : Option RuleParts) (is : stood ≡ object_under rules id) (before : ℕ → ℕ) (was : (q : ℕ) → before q ≡ naming rules q) where
    one_if_is : (q : ℕ) → one_if (names q) stood ≡ one_if (names q) (object_under rules id)
    one_if_is q = ap (one_if (names q)) is

    -- a rule that is held is counted
    pub one_if_le : (q : ℕ) → one_if (names q) stood ≤ before q
    one_if_le q = omega (arith, one_if_is q, count-without (names q) rules id, was q)

    module _ (uncounted : ℕ → ℕ) (less : (q : ℕ) → uncounted q + one_if (names q) stood ≡ before q) where
      -- where it is dropped, the others are
      pub drop_counts : (left : List (ℕ × RuleParts)) → left ≡ without rules id → (q : ℕ) → uncounted q ≡ naming left q
      drop_counts left made q = rw made (omega (arith, one_if_is q, count-without (names q) rules id, was q, less q))

      module _ (rising : IsById rules) (rule : RuleParts) where
        replaced : (q : ℕ) → uncounted q + cond (eqb (name rule) q) 1 0 ≡ naming (put rules id rule) q
        replaced q = omega (arith, one_if_is q, count-put (names q) rules id rule rising, was q, less q)

        -- where another is put, that one is too
        pub put_counts : (held_now : List (ℕ × RuleParts)) → held_now ≡ put rules id rule → (named : ℕ) → named ≡ name rule → (after : ℕ → ℕ) → ((q : ℕ) → after q ≡ uncounted q + cond (eqb named q) 1 0) → (q : ℕ) → after q ≡ naming held_now q
        put_counts held_now made named named_is after more q =
            rw made (more q ∙ (ap (λ n. uncounted q + cond (eqb n q) 1 0) named_is ∙ replaced q))

        -- one more fits where the rules do
        pub one_fits : (limit : ℕ) → limit < 2 ^ 32 → length (put rules id rule) ≤ limit → uncounted (name rule) + 1 < 2 ^ 32
        one_fits limit small fit =
            let one : cond {A = ℕ} (eqb (name rule) (name rule)) 1 0 ≡ 1 = one_for_itself (name rule) in
            let counted = replaced (name rule) in
            let most = count_by-le-length (λ (entry : ℕ × RuleParts). eqb (name entry.1) (name rule)) (put rules id rule) in
            omega arith
