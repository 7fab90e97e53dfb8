-- A search by halving ends at the first row with a number and a key.
use Rattle.std.proofs.Common.{◌≡◌, ℕ, ◌+◌, ◌-◌, ◌*◌, ◌/◌, ◌^◌, ◌<◌, ◌≤◌, Bool, true, false, cond, eqb, ltb, List, length, get_or, Ordering, refl, sym, ap, ◌∙◌, ◌⊎◌, inl, inr, arith, Contains}
use Rattle.std.specs.Ordering.{nat_cmp, ordering_then, ordering_reverse, is_lt, is_eq}
use Rattle.ff_headers.proofs.PlaceLemmas.{place_total}
use Rattle.std.specs.declared.cmp.Ordering.TheVariants.{Less, Equal, Greater}
use Rattle.std.specs.Cmp.{tied_itself}
use Rattle.std.specs.Cmp.Lexicographic.{slice_cmp, bytes_decides}
use Rattle.std.proofs.Math.Nat.{mul-le-mul_left, pow-le-pow_right}
use Rattle.std.proofs.lemmas.Cmp.{nat_list_cmp_total}
use Rattle.std.proofs.lemmas.Map.Text.{is_eq-slice_cmp}
use Rattle.std.proofs.lemmas.Bool.{cases_lt}
use Rattle.std.proofs.lemmas.Bool.Decides.{nat_tests}
use Rattle.std.proofs.lemmas.List.{get_or_default}
use Rattle.std.proofs.lemmas.Nat.{pow-add}
use Rattle.ff_headers.specs.Places.{place_cmp}
use Rattle.matcher.specs.Rows.{row_cmp, cmp_in_shape, AreRising}
use Rattle.matcher.specs.Searches.{precedes, HasKey, IsCost}
use Rattle.matcher.specs.declared.rows.Row.{Row}

-- ---- the count of halvings

twice : (s : ℕ) → 2 ^ (s + 1) ≡ 2 * 2 ^ s
twice s = pow-add 2 s 1 ∙ (let e : 2 ^ s * 2 ^ 1 ≡ 2 * 2 ^ s = omega arith in e)

-- one part of two halves, after one step more
pub half_more : (s a b n : ℕ) → 2 * a ≤ b → 2 ^ s * b ≤ n → 2 ^ (s + 1) * a ≤ n
half_more s a b n half held =
    let le : 2 ^ s * (2 * a) ≤ 2 ^ s * b = mul-le-mul_left (2 ^ s) half in
    let same : 2 ^ (s + 1) * a ≡ 2 ^ s * (2 * a) = rw (twice s) (grind arith) in
    omega arith

pub half_less : (s a b n : ℕ) → a ≤ b → 2 ^ s * b ≤ n → 2 ^ s * a ≤ n
half_less s a b n less held = let le : 2 ^ s * a ≤ 2 ^ s * b = mul-le-mul_left (2 ^ s) less in omega arith

-- a step is taken only where something is left
pub few_more : (s b n : ℕ) → 1 ≤ b → 2 ^ s * b ≤ n → 2 ^ (s + 1) ≤ 2 * n + 1
few_more s b n some held =
    let le : 2 ^ s * 1 ≤ 2 ^ s * b = mul-le-mul_left (2 ^ s) some in
    let t = twice s in
    omega arith

-- at most as many steps as halvings
pub few_enough : (s n d : ℕ) → n < 2 ^ d → 2 ^ s ≤ 2 * n + 1 → s ≤ d
few_enough s n d lt few = elim (cases_lt d s) [
  | inr le ↦ le
  | inl more ↦
      let grows : 2 ^ (d + 1) ≤ 2 ^ s = pow-le-pow_right (omega arith) (omega arith) in
      let t = twice d in
      absurd (omega arith)
]

-- ---- what order says

less_front : (a b : Ordering) → ordering_then a b ≡ Less → (a ≡ Less) ⊎ ((a ≡ Equal) × (b ≡ Less))
less_front Less b h = inl refl
less_front Equal b h = inr (refl, h)
less_front Greater b h = absurd cc

below : (m n : ℕ) → nat_cmp m n ≡ Less → m < n
below m n h = grind (arith, nat_tests)

level : (m n : ℕ) → nat_cmp m n ≡ Equal → m ≡ n
level m n h = grind (arith, nat_tests)

pub same_keys : (xs ys : List ℕ) → slice_cmp nat_cmp xs ys ≡ Equal → xs ≡ ys
same_keys xs ys h = (bytes_decides xs ys).0 (sym (is_eq-slice_cmp xs ys) ∙ ap is_eq h)

pub level_keys : (xs ys : List ℕ) → xs ≡ ys → slice_cmp nat_cmp xs ys ≡ Equal
level_keys xs ys e = rw e (tied_itself nat_list_cmp_total ys)

-- a row with the number and key doesn't precede them
pub own_precedes : (number : ℕ) (key : List ℕ) (row : Row) → HasKey number key row → precedes number key row ≡ false
unfolding precedes
own_precedes number key row (h, k) =
    let t : eqb row.shape number ≡ true = grind (arith, nat_tests) in
    rw t (ap is_lt (level_keys row.key.items key k))

-- a row of the same number precedes where its key is less, and a row of a lesser number always
precedes_by_key : (number : ℕ) (key : List ℕ) (row : Row) → row.shape ≡ number → slice_cmp nat_cmp row.key.items key ≡ Less → precedes number key row ≡ true
unfolding precedes
precedes_by_key number key row h less =
    let t : eqb row.shape number ≡ true = grind (arith, nat_tests) in
    rw t (ap is_lt less)

precedes_by_number : (number : ℕ) (key : List ℕ) (row : Row) → row.shape < number → precedes number key row ≡ true
unfolding precedes
precedes_by_number number key row lt =
    let t : eqb row.shape number ≡ false = grind (arith, nat_tests) in
    rw t (grind (arith, nat_tests))

both : (b : Bool) → b ≡ true → b ≡ false → ⊥
both b h k = cc

-- a row that doesn't precede, before one with the number and key, has them too
pub key_before : (number : ℕ) (key : List ℕ) (row other : Row) → HasKey number key other → precedes number key row ≡ false → row_cmp row other ≡ Less → HasKey number key row
key_before number key row other (h, k) stays less = elim (less_front (nat_cmp row.shape other.shape) (cmp_in_shape row other) less) [
  | inl a ↦ let lt = below row.shape other.shape a in absurd (both (precedes number key row) (precedes_by_number number key row (omega arith)) stays)
  | inr e ↦
      let same : row.shape ≡ number = level row.shape other.shape e.0 ∙ h in
      elim (less_front (slice_cmp nat_cmp row.key.items other.key.items) (place_cmp row.candidate.place other.candidate.place) e.1) [
        | inl b ↦ absurd (both (precedes number key row) (precedes_by_key number key row same (ap (λ (xs : List ℕ). slice_cmp nat_cmp row.key.items xs) (sym k) ∙ b)) stays)
        | inr f ↦ (same, same_keys row.key.items other.key.items f.0 ∙ k)
      ]
]

-- of two rows with the number and key the earlier has the lesser place
place_before : (row other : Row) → row.shape ≡ other.shape → row.key.items ≡ other.key.items → row_cmp row other ≡ Less → place_cmp row.candidate.place other.candidate.place ≡ Less
place_before row other h k less = elim (less_front (nat_cmp row.shape other.shape) (cmp_in_shape row other) less) [
  | inl a ↦ let lt = below row.shape other.shape a in absurd (omega arith)
  | inr e ↦ elim (less_front (slice_cmp nat_cmp row.key.items other.key.items) (place_cmp row.candidate.place other.candidate.place) e.1) [
    | inl b ↦ let same = level_keys row.key.items other.key.items k in absurd (two_ways (slice_cmp nat_cmp row.key.items other.key.items) b same)
    | inr f ↦ f.1
  ]
] where
  two_ways : (o : Ordering) → o ≡ Less → o ≡ Equal → ⊥
  two_ways o a b = cc

-- ---- the place where a search ends

module _ (rows : List Row) (rises : AreRising rows) (number : ℕ) (key : List ℕ) (p : ℕ) (before : (k : ℕ) (d : Row) → k < p → precedes number key (get_or rows k d) ≡ true) (behind : (k : ℕ) (d : Row) → p ≤ k → k < length rows → precedes number key (get_or rows k d) ≡ false) where
  -- a row with the number and key stands there or behind
  pub stands_behind : (row : Row) (has : Contains rows row) → HasKey number key row → p ≤ has.0
  stands_behind row has h = elim (cases_lt has.0 p) [
    | inl lt ↦ absurd (both (precedes number key row) (ap (precedes number key) (sym has.2) ∙ before has.0 row lt) (own_precedes number key row h))
    | inr le ↦ le
  ]

  -- so the row there has them too
  pub key_at : (row : Row) (has : Contains rows row) → HasKey number key row → (d : Row) → HasKey number key (get_or rows p d)
  key_at row has h d =
      let le = stands_behind row has h in
      elim (cases_lt p has.0) [
        | inl lt ↦
            let at : get_or rows has.0 d ≡ row = get_or_default rows has.0 d row has.1 ∙ has.2 in
            key_before number key (get_or rows p d) row h (behind p d (omega arith) (omega (arith, has.1))) (ap (λ (r : Row). row_cmp (get_or rows p d) r) (sym at) ∙ rises p has.0 d lt has.1)
        | inr ge ↦
            let same : p ≡ has.0 = omega arith in
            let at : get_or rows p d ≡ row = ap (λ (n : ℕ). get_or rows n d) same ∙ get_or_default rows has.0 d row has.1 ∙ has.2 in
            (ap (λ (r : Row). r.shape) at ∙ h.0, ap (λ (r : Row). r.key.items) at ∙ h.1)
      ]

  -- and the least place
  pub least_at : (d : Row) → HasKey number key (get_or rows p d) → (row : Row) → Contains rows row → HasKey number key row → is_lt (place_cmp row.candidate.place (get_or rows p d).candidate.place) ≡ false
  least_at d here row has h =
      let le = stands_behind row has h in
      elim (cases_lt p has.0) [
        | inl lt ↦
            let at : get_or rows has.0 d ≡ row = get_or_default rows has.0 d row has.1 ∙ has.2 in
            not_back (get_or rows p d).candidate.place row.candidate.place (place_before (get_or rows p d) row (here.0 ∙ sym h.0) (here.1 ∙ sym h.1) (ap (λ (r : Row). row_cmp (get_or rows p d) r) (sym at) ∙ rises p has.0 d lt has.1))
        | inr ge ↦
            let same : p ≡ has.0 = omega arith in
            let at : get_or rows p d ≡ row = ap (λ (n : ℕ). get_or rows n d) same ∙ get_or_default rows has.0 d row has.1 ∙ has.2 in
            not_itself row (get_or rows p d) at
      ] where
        not_back : (x y : ℕ × ℕ × ℕ) → place_cmp x y ≡ Less → is_lt (place_cmp y x) ≡ false
        not_back x y less = by (place_cmp x y) (place_cmp y x) (place_total.antisymm y x) less where
          by : (o r : Ordering) → r ≡ ordering_reverse o → o ≡ Less → is_lt r ≡ false
          by o r turned l = ap is_lt (turned ∙ ap ordering_reverse l)

        not_itself : (a b : Row) → b ≡ a → is_lt (place_cmp a.candidate.place b.candidate.place) ≡ false
        not_itself a b same = rw same (ap is_lt (tied_itself place_total a.candidate.place))

-- before a row with the number that precedes, each has at most the number
pub number_before : (rows : List Row) → AreRising rows → (number : ℕ) (key : List ℕ) (m k : ℕ) (d : Row) → k ≤ m → m < length rows → precedes number key (get_or rows m d) ≡ true → (get_or rows k d).shape ≡ number → (get_or rows m d).shape ≡ number
unfolding precedes
number_before rows rises number key m k d le within first at = elim (cases_lt k m) [
  | inr ge ↦ let same : k ≡ m = omega arith in ap (λ (n : ℕ). (get_or rows n d).shape) (sym same) ∙ at
  | inl lt ↦
      let up = number_up (get_or rows k d) (get_or rows m d) (rises k m d lt within) in
      by (eqb (get_or rows m d).shape number) refl first up
] where
  number_up : (a b : Row) → row_cmp a b ≡ Less → a.shape ≤ b.shape
  number_up a b less = elim (less_front (nat_cmp a.shape b.shape) (cmp_in_shape a b) less) [
    | inl l ↦ let lt = below a.shape b.shape l in omega arith
    | inr e ↦ let same = level a.shape b.shape e.0 in omega arith
  ]

  by : (b : Bool) → eqb (get_or rows m d).shape number ≡ b → cond b (is_lt (slice_cmp nat_cmp (get_or rows m d).key.items key)) (ltb (get_or rows m d).shape number) ≡ true → (get_or rows k d).shape ≤ (get_or rows m d).shape → (get_or rows m d).shape ≡ number
  by true e first up = grind (arith, nat_tests)
  by false e first up =
      let lt : (get_or rows m d).shape < number = grind (arith, nat_tests) in
      absurd (omega (arith, at))

-- ---- what a row that precedes says of those before it

precedes_cases : (number : ℕ) (key : List ℕ) (row : Row) → precedes number key row ≡ true → (row.shape < number) ⊎ ((row.shape ≡ number) × (slice_cmp nat_cmp row.key.items key ≡ Less))
unfolding precedes
precedes_cases number key row h = by (eqb row.shape number) refl h where
  less_of : (o : Ordering) → is_lt o ≡ true → o ≡ Less
  less_of Less h = refl
  less_of Equal h = absurd cc
  less_of Greater h = absurd cc

  by : (b : Bool) → eqb row.shape number ≡ b → cond b (is_lt (slice_cmp nat_cmp row.key.items key)) (ltb row.shape number) ≡ true → (row.shape < number) ⊎ ((row.shape ≡ number) × (slice_cmp nat_cmp row.key.items key ≡ Less))
  by true e h = let same : row.shape ≡ number = grind (arith, nat_tests) in inr (same, less_of _ h)
  by false e h = let lt : row.shape < number = grind (arith, nat_tests) in inl lt

precedes_too : (number : ℕ) (key : List ℕ) (a b : Row) → row_cmp a b ≡ Less → precedes number key b ≡ true → precedes number key a ≡ true
precedes_too number key a b less h = elim (less_front (nat_cmp a.shape b.shape) (cmp_in_shape a b) less) [
  | inl l ↦
      let lt = below a.shape b.shape l in
      elim (precedes_cases number key b h) [
        | inl m ↦ precedes_by_number number key a (omega arith)
        | inr m ↦ precedes_by_number number key a (omega (arith, m.0))
      ]
  | inr e ↦
      let same = level a.shape b.shape e.0 in
      elim (precedes_cases number key b h) [
        | inl m ↦ precedes_by_number number key a (omega arith)
        | inr m ↦ elim (less_front (slice_cmp nat_cmp a.key.items b.key.items) (place_cmp a.candidate.place b.candidate.place) e.1) [
          | inl l ↦ precedes_by_key number key a (same ∙ m.0) (nat_list_cmp_total.trans a.key.items b.key.items key l m.1)
          | inr l ↦ precedes_by_key number key a (same ∙ m.0) (ap (λ (xs : List ℕ). slice_cmp nat_cmp xs key) (same_keys a.key.items b.key.items l.0) ∙ m.1)
        ]
      ]
]

not_false : (b : Bool) → (b ≡ true → ⊥) → b ≡ false
not_false true h = absurd (h refl)
not_false false h = refl

one_or_none : (shape number s t : ℕ) → (shape ≡ number → t ≡ s + 1) → ((shape ≡ number → ⊥) → t ≡ s) → (t ≡ s + 1) ⊎ (t ≡ s)
one_or_none shape number s t counted free = by (eqb shape number) refl where
  by : (b : Bool) → eqb shape number ≡ b → (t ≡ s + 1) ⊎ (t ≡ s)
  by true e = let same : shape ≡ number = grind (arith, nat_tests) in inl (counted same)
  by false e = inr (free (λ same. absurd (grind (arith, nat_tests))))

-- ---- the search

-- where the search is: the rows before low precede, and those from high on don't
pub record IsSearch (rows : List Row) (number : ℕ) (key : List ℕ) (first low high steps : ℕ) : Type 0 where
  pub ordered : low ≤ high
  pub within : high ≤ length rows
  pub before : (k : ℕ) (d : Row) → k < low → precedes number key (get_or rows k d) ≡ true
  pub behind : (k : ℕ) (d : Row) → high ≤ k → k < length rows → precedes number key (get_or rows k d) ≡ false
  pub rising : first ≤ steps
  pub some : (k : ℕ) (d : Row) → k < low → (get_or rows k d).shape ≡ number → first + 1 ≤ steps
  pub none : ((row : Row) → Contains rows row → ¬ (row.shape ≡ number)) → steps ≡ first
  pub halved : 2 ^ (steps - first) * (high - low) ≤ length rows
  pub few : 2 ^ (steps - first) ≤ 2 * length rows + 1

pub search_begun : (rows : List Row) (number : ℕ) (key : List ℕ) (steps high : ℕ) → high ≡ length rows → IsSearch rows number key steps 0 high steps
search_begun rows number key steps high is =
    let none : 2 ^ (steps - steps) ≡ 1 = (let z : steps - steps ≡ 0 = omega arith in rw z refl) in
    record {
      ordered = omega arith;
      within = omega arith;
      before = λ k d lt. absurd (omega arith);
      behind = λ k d le lt. absurd (omega arith);
      rising = omega arith;
      some = λ k d lt. absurd (omega arith);
      none = λ all. refl;
      halved = rw none (omega arith);
      few = rw none (omega arith);
    }

halved_on : (first s t a b n : ℕ) → first ≤ s → (t ≡ s + 1) ⊎ (t ≡ s) → 2 * a ≤ b → 2 ^ (s - first) * b ≤ n → 2 ^ (t - first) * a ≤ n
halved_on first s t a b n rising cost half held = elim cost [
  | inl more ↦ let e : t - first ≡ (s - first) + 1 = omega arith in rw e (half_more (s - first) a b n half held)
  | inr same ↦ let e : t - first ≡ s - first = omega arith in rw e (half_less (s - first) a b n (omega arith) held)
]

few_on : (first s t b n : ℕ) → first ≤ s → (t ≡ s + 1) ⊎ (t ≡ s) → 1 ≤ b → 2 ^ (s - first) * b ≤ n → 2 ^ (s - first) ≤ 2 * n + 1 → 2 ^ (t - first) ≤ 2 * n + 1
few_on first s t b n rising cost some held few = elim cost [
  | inl more ↦ let e : t - first ≡ (s - first) + 1 = omega arith in rw e (few_more (s - first) b n some held)
  | inr same ↦ let e : t - first ≡ s - first = omega arith in rw e few
]

module _ (rows : List Row) (rises : AreRising rows) (number : ℕ) (key : List ℕ) (first low high s t m : ℕ) (row : Row) (was : IsSearch rows number key first low high s) (left : low < high) (middle : m ≡ low + (high - low) / 2) (at : row ≡ get_or rows m row) (counted : row.shape ≡ number → t ≡ s + 1) (free : (row.shape ≡ number → ⊥) → t ≡ s) where
  m_within : m < length rows
  m_within = let a = was.within in omega arith

  m_at : (d : Row) → get_or rows m d ≡ row
  m_at d = get_or_default rows m d row m_within ∙ sym at

  has_m : Contains rows row
  has_m = (m, m_within, sym at)

  cost : (t ≡ s + 1) ⊎ (t ≡ s)
  cost = one_or_none row.shape number s t counted free

  up : first ≤ t
  up = let a = was.rising in elim cost [
    | inl c ↦ omega arith
    | inr c ↦ omega arith
  ]

  none_on : ((other : Row) → Contains rows other → ¬ (other.shape ≡ number)) → t ≡ first
  none_on all = free (all row has_m) ∙ was.none all

  some_kept : (k : ℕ) (d : Row) → k < low → (get_or rows k d).shape ≡ number → first + 1 ≤ t
  some_kept k d lt same = let a = was.some k d lt same in elim cost [
    | inl c ↦ omega arith
    | inr c ↦ omega arith
  ]

  pub search_low : precedes number key row ≡ true → IsSearch rows number key first (m + 1) high t
  search_low h = record {
    ordered = omega arith;
    within = was.within;
    before = λ k d lt. elim (cases_lt k m) [
      | inl l ↦ precedes_too number key (get_or rows k d) (get_or rows m d) (rises k m d l m_within) (ap (precedes number key) (m_at d) ∙ h)
      | inr l ↦ let same : k ≡ m = omega arith in ap (λ (n : ℕ). precedes number key (get_or rows n d)) same ∙ ap (precedes number key) (m_at d) ∙ h
    ];
    behind = was.behind;
    rising = up;
    some = λ k d lt same.
        let it = number_before rows rises number key m k d (omega arith) m_within (ap (precedes number key) (m_at d) ∙ h) same in
        let own : row.shape ≡ number = sym (ap (λ (r : Row). r.shape) (m_at d)) ∙ it in
        let c = counted own in
        let a = was.rising in
        omega arith;
    none = none_on;
    halved = halved_on first s t (high - (m + 1)) (high - low) (length rows) was.rising cost (omega arith) was.halved;
    few = few_on first s t (high - low) (length rows) was.rising cost (omega arith) was.halved was.few;
  }

  pub search_high : precedes number key row ≡ false → IsSearch rows number key first low m t
  search_high h = record {
    ordered = omega arith;
    within = let a = m_within in omega arith;
    before = was.before;
    behind = λ k d le lt. not_false _ (λ yes. elim (cases_lt m k) [
      | inl l ↦ both (precedes number key row) (ap (precedes number key) (sym (m_at d)) ∙ precedes_too number key (get_or rows m d) (get_or rows k d) (rises m k d l lt) yes) h
      | inr l ↦ let same : m ≡ k = omega arith in both (precedes number key row) (ap (precedes number key) (sym (m_at d)) ∙ ap (λ (n : ℕ). precedes number key (get_or rows n d)) same ∙ yes) h
    ]);
    rising = up;
    some = some_kept;
    none = none_on;
    halved = halved_on first s t (m - low) (high - low) (length rows) was.rising cost (omega arith) was.halved;
    few = few_on first s t (high - low) (length rows) was.rising cost (omega arith) was.halved was.few;
  }

-- ---- the cost of a whole search

module _ (rows : List Row) (rises : AreRising rows) (number : ℕ) (key : List ℕ) (p before mid : ℕ) (behind : (k : ℕ) (d : Row) → p ≤ k → k < length rows → precedes number key (get_or rows k d) ≡ false) (rising : before ≤ mid) (some : (k : ℕ) (d : Row) → k < p → (get_or rows k d).shape ≡ number → before + 1 ≤ mid) (none : ((row : Row) → Contains rows row → ¬ (row.shape ≡ number)) → mid ≡ before) (few : 2 ^ (mid - before) ≤ 2 * length rows + 1) where
  most_mid : (d : ℕ) → length rows < 2 ^ d → mid ≤ before + d
  most_mid d lt = let s = few_enough (mid - before) (length rows) d lt few in omega arith

  pub cost_at_end : length rows ≤ p → IsCost rows number before mid
  cost_at_end end = record {
    some = λ row has same. some has.0 row (omega (arith, has.1)) (ap (λ (r : Row). r.shape) has.2 ∙ same);
    none = none;
    most = λ d lt. let m = most_mid d lt in omega arith;
    rising = rising;
  }

  pub cost_at_row : (after : ℕ) (row : Row) → p < length rows → row ≡ get_or rows p row → (row.shape ≡ number → after ≡ mid + 1) → ((row.shape ≡ number → ⊥) → after ≡ mid) → IsCost rows number before after
  cost_at_row after row inside at counted free =
      record {
        some = λ other has same. elim (cases_lt has.0 p) [
          | inl lt ↦ let s = some has.0 other lt (ap (λ (r : Row). r.shape) has.2 ∙ same) in elim cost [
            | inl c ↦ omega arith
            | inr c ↦ omega arith
          ]
          | inr ge ↦ let c = counted (number_there other has ge same) in omega arith
        ];
        none = λ all. free (all row (p, inside, sym at)) ∙ none all;
        most = λ d lt. let m = most_mid d lt in elim cost [
          | inl c ↦ omega arith
          | inr c ↦ omega arith
        ];
        rising = elim cost [
          | inl c ↦ omega arith
          | inr c ↦ omega arith
        ];
      } where
        cost : (after ≡ mid + 1) ⊎ (after ≡ mid)
        cost = one_or_none row.shape number mid after counted free

        number_there : (other : Row) (has : Contains rows other) → p ≤ has.0 → other.shape ≡ number → row.shape ≡ number
        number_there other has ge same = elim (cases_lt row.shape number) [
          | inl lt ↦ absurd (both (precedes number key row) (precedes_by_number number key row lt) (ap (precedes number key) at ∙ behind p row (omega arith) inside))
          | inr le ↦ elim (cases_lt p has.0) [
            | inl l ↦
                let less : row_cmp row other ≡ Less = ap (λ (r : Row). row_cmp r other) at ∙ ap (λ (r : Row). row_cmp (get_or rows p row) r) (sym has.2) ∙ ap (λ (r : Row). row_cmp (get_or rows p row) r) (get_or_default rows has.0 other row has.1) ∙ rises p has.0 row l has.1 in
                elim (less_front (nat_cmp row.shape other.shape) (cmp_in_shape row other) less) [
                  | inl a ↦ let lt = below row.shape other.shape a in omega arith
                  | inr e ↦ level row.shape other.shape e.0 ∙ same
                ]
            | inr l ↦
                let equal : p ≡ has.0 = omega arith in
                ap (λ (r : Row). r.shape) (at ∙ ap (λ (n : ℕ). get_or rows n row) equal ∙ get_or_default rows has.0 row other has.1 ∙ has.2) ∙ same
          ]
        ]
