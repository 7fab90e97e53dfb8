-- The links of the chains that are out, while descriptors go out one after another, and while a chain comes back.
use Rattle.std.proofs.Common.{◌≡◌, ◌≢◌, ℕ, ◌<◌, ◌⊎◌, inl, inr, true, false, cond, List, [], ◌∷◌, ◌++◌, length, map, get_or, Option, Some, None, refl, sym, ap, ◌∙◌, subst, arith}
use Rattle.std.proofs.Math.ListN.{set, length-set, get_or-map}
use Rattle.std.proofs.lemmas.Bool.{cases_Bool, cases_eq, eq-eqb, ne_eqb, eqb-true}
use Rattle.std.proofs.lemmas.List.{length-map, get_or-set_same, get_or-set_other, reverse-append}
use Rattle.split_queue.specs.Pools.{owner_of, first_free, is_owned_by, owner_after_release, times, HeadsAreOut, LinksLead, HasLinkedChain, AreChains}
use Rattle.split_queue.proofs.PoolLaws.{in_range}
use Rattle.split_queue.proofs.RisingLists.{here, here-same, here-other, times-cons, times-none}

-- ---- who owns a descriptor

pub owned-is : (head : ℕ) (owner : Option ℕ) → is_owned_by head owner ≡ true → owner ≡ Some head
owned-is head None owned = absurd (cc)
owned-is head (Some h) owned = ap Some (eqb-true h head owned)

pub is-owned : (head : ℕ) (owner : Option ℕ) → owner ≡ Some head → is_owned_by head owner ≡ true
is-owned head owner is = rw is (eq-eqb head head refl)

not-owned : (head h : ℕ) (owner : Option ℕ) → h ≢ head → owner ≡ Some h → is_owned_by head owner ≡ false
not-owned head h owner apart is = rw is (ne_eqb h head apart)

none-owned : (head : ℕ) (owner : Option ℕ) → owner ≡ None → is_owned_by head owner ≡ false
none-owned head owner is = rw is refl

pub none_and_some : (owner : Option ℕ) (head : ℕ) → owner ≡ None → owner ≡ Some head → ⊥
none_and_some owner head none some = cc

same_head : (owner : Option ℕ) (head h : ℕ) → owner ≡ Some head → owner ≡ Some h → head ≡ h
same_head owner head h one other = cc

-- how many chains of the head a descriptor is in
abbrev pub weight : ℕ → Option ℕ → ℕ
weight head owner = cond (is_owned_by head owner) 1 0

pub weight-one : (head : ℕ) (owner : Option ℕ) → owner ≡ Some head → weight head owner ≡ 1
weight-one head owner is = rw (is-owned head owner is) refl

weight-zero : (head : ℕ) (owner : Option ℕ) → is_owned_by head owner ≡ false → weight head owner ≡ 0
weight-zero head owner not = rw not refl

-- a head that is in no chain heads none
pub no_chain : (owners : List (Option ℕ)) (head : ℕ) → HeadsAreOut owners → owner_of owners head ≡ None
    → (number : ℕ) → is_owned_by head (owner_of owners number) ≡ false
no_chain owners head heads none number = elim (cases_Bool (is_owned_by head (owner_of owners number))) [
  | inl owned ↦ absurd (none_and_some (owner_of owners head) head none (heads number head (owned-is head (owner_of owners number) owned)))
  | inr not ↦ not
]

-- ---- links that are changed elsewhere

LinksLead-set : (links : List ℕ) (number link head next : ℕ) (numbers : List ℕ) → times number numbers ≡ 0
    → LinksLead links head next numbers → LinksLead (set links number link) head next numbers
LinksLead-set links number link head next [] none leads = leads
LinksLead-set links number link head next (n ∷ numbers) none leads =
    let apart = times-none number n numbers none in
    let same : get_or (set links number link) n 0 ≡ get_or links n 0 = get_or-set_other links number n link 0 apart.0 in (
      leads.0,
      subst (λ l. LinksLead (set links number link) head l numbers) (sym same)
          (LinksLead-set links number link head (get_or links n 0) numbers apart.1 leads.1),
    )

-- ---- a descriptor goes out

-- the last free descriptor is the one that is given out first
pub claim-known : (owners : List (Option ℕ)) (free rest : List ℕ) (number head : ℕ) → free ≡ rest ++ number ∷ []
    → (first_free free ≡ head) ⊎ (owner_of owners head ≡ Some head) → (number ≡ head) ⊎ (owner_of owners head ≡ Some head)
claim-known owners free rest number head is known = elim known [
  | inl first ↦
      let backwards : first_free free ≡ number = ap first_free is ∙ ap (λ ns. get_or ns 0 0) (reverse-append rest (number ∷ [])) in
      inl (sym backwards ∙ first)
  | inr out ↦ inr out
]

-- the head is out then
pub head-out : (owners : List (Option ℕ)) (number head : ℕ) → number < length owners
    → (number ≡ head) ⊎ (owner_of owners head ≡ Some head) → owner_of (set owners number (Some head)) head ≡ Some head
head-out owners number head below known =
    let here : owner_of (set owners number (Some head)) number ≡ Some head = get_or-set_same owners number (Some head) None below in
    elim known [
      | inl same ↦ ap (owner_of (set owners number (Some head))) (sym same) ∙ here
      | inr out ↦ elim (cases_eq head number) [
        | inl same ↦ ap (owner_of (set owners number (Some head))) same ∙ here
        | inr apart ↦ get_or-set_other owners number head (Some head) None apart ∙ out
      ]
    ]

-- a free descriptor goes out as the head of a chain, or behind the head of one that is out
module _ (owners : List (Option ℕ)) (links : List ℕ) (number head : ℕ) (below : number < length owners) (none : owner_of owners number ≡ None) (known : (number ≡ head) ⊎ (owner_of owners head ≡ Some head)) (chains : AreChains owners links) where
  abbrev owners_now : List (Option ℕ)
  owners_now = set owners number (Some head)

  abbrev links_between : List ℕ
  links_between = set links number (get_or links head 0)

  abbrev links_now : List ℕ
  links_now = set links_between head number

  owner-number : owner_of owners_now number ≡ Some head
  owner-number = get_or-set_same owners number (Some head) None below

  owner-other : (n : ℕ) → n ≢ number → owner_of owners_now n ≡ owner_of owners n
  owner-other n apart = get_or-set_other owners number n (Some head) None apart

  pub head-below : head < length owners
  head-below = elim known [ inl same ↦ omega (arith, same, below) | inr out ↦ in_range owners head (rw out refl) ]

  head-now : owner_of owners_now head ≡ Some head
  head-now = head-out owners number head below known

  heads-now : HeadsAreOut owners_now
  heads-now = λ n h out. elim (cases_eq n number) [
    | inl same ↦
        let is : head ≡ h = same_head (owner_of owners_now n) head h (ap (owner_of owners_now) same ∙ owner-number) out in
        subst (λ k. owner_of owners_now k ≡ Some k) is head-now
    | inr apart ↦
        let before = chains.heads n h (sym (owner-other n apart) ∙ out) in
        owner-other h (λ same. none_and_some (owner_of owners h) h (ap (owner_of owners) same ∙ none) before) ∙ before
  ]

  -- the chain of the head alone
  one-once : number ≡ head → (n : ℕ) → times n (head ∷ []) ≡ weight head (owner_of owners_now n)
  one-once is n = elim (cases_eq n number) [
    | inl same ↦
        let first : here n head ≡ 1 = ap (here n) (sym (same ∙ is)) ∙ here-same n in
        omega (arith, first, times-cons n head [], weight-one head (owner_of owners_now n) (ap (owner_of owners_now) same ∙ owner-number))
    | inr apart ↦
        let first : here n head ≡ 0 = here-other n head (λ same. apart (sym same ∙ sym is)) in
        let before = no_chain owners head chains.heads (ap (owner_of owners) (sym is) ∙ none) n in
        let not : is_owned_by head (owner_of owners_now n) ≡ false = ap (is_owned_by head) (owner-other n apart) ∙ before in
        omega (arith, first, times-cons n head [], weight-zero head (owner_of owners_now n) not)
  ]

  -- or with one more behind the head
  more-once : (rest : List ℕ) → ((n : ℕ) → times n (head ∷ rest) ≡ weight head (owner_of owners n))
      → (n : ℕ) → times n (head ∷ number ∷ rest) ≡ weight head (owner_of owners_now n)
  more-once rest once n = elim (cases_eq n number) [
    | inl same ↦
        let first : here n number ≡ 1 = ap (here n) (sym same) ∙ here-same n in
        let before = once n ∙ weight-zero head (owner_of owners n) (none-owned head (owner_of owners n) (ap (owner_of owners) same ∙ none)) in
        let now = weight-one head (owner_of owners_now n) (ap (owner_of owners_now) same ∙ owner-number) in
        omega (arith, first, before, now, times-cons n head (number ∷ rest), times-cons n number rest, times-cons n head rest)
    | inr apart ↦
        let first : here n number ≡ 0 = here-other n number (λ same. apart (sym same)) in
        let now : weight head (owner_of owners_now n) ≡ weight head (owner_of owners n) = ap (weight head) (owner-other n apart) in
        omega (arith, first, once n, now, times-cons n head (number ∷ rest), times-cons n number rest, times-cons n head rest)
  ]

  links-below : head < length links_between
  links-below = omega (arith, head-below, chains.same_size, length-set links number (get_or links head 0))

  link-head : get_or links_now head 0 ≡ number
  link-head = get_or-set_same links_between head number 0 links-below

  chain-alone : number ≡ head → HasLinkedChain owners_now links_now head
  chain-alone is = ([], record { in_line = link-head ∙ is; once = one-once is })

  chain-longer : number ≢ head → owner_of owners head ≡ Some head → HasLinkedChain owners_now links_now head
  chain-longer apart out =
      let old = chains.linked head out in
      let rest = old.0 in
      let number_none : times number (head ∷ rest) ≡ 0 = old.1.once number ∙ weight-zero head (owner_of owners number) (none-owned head (owner_of owners number) none) in
      let head_one : times head (head ∷ rest) ≡ 1 = old.1.once head ∙ weight-one head (owner_of owners head) out in
      let head_none : times head rest ≡ 0 = omega (arith, head_one, here-same head, times-cons head head rest) in
      let between = LinksLead-set links number (get_or links head 0) head (get_or links head 0) rest (times-none number head rest number_none).1 old.1.in_line in
      let leads = LinksLead-set links_between head number head (get_or links head 0) rest head_none between in
      let inside : number < length links = omega (arith, below, chains.same_size) in
      let link_number : get_or links_now number 0 ≡ get_or links head 0 =
      get_or-set_other links_between head number number 0 apart ∙ get_or-set_same links number (get_or links head 0) 0 inside in (
        number ∷ rest,
        record {
          in_line = (link-head, subst (λ l. LinksLead links_now head l rest) (sym link_number) leads);
          once = more-once rest old.1.once;
        },
      )

  head-chain : HasLinkedChain owners_now links_now head
  head-chain = elim (cases_eq number head) [
    | inl same ↦ chain-alone same
    | inr apart ↦ elim known [ inl same ↦ absurd (apart same) | inr out ↦ chain-longer apart out ]
  ]

  -- the chains of other heads stay
  not_of : (h : ℕ) → h ≢ head → is_owned_by h (owner_of owners head) ≡ false
  not_of h apart = elim known [
    | inl same ↦ none-owned h (owner_of owners head) (ap (owner_of owners) (sym same) ∙ none)
    | inr out ↦ not-owned h head (owner_of owners head) (λ same. apart (sym same)) out
  ]

  other-once : (h : ℕ) (rest : List ℕ) → h ≢ head → ((n : ℕ) → times n (h ∷ rest) ≡ weight h (owner_of owners n))
      → (n : ℕ) → times n (h ∷ rest) ≡ weight h (owner_of owners_now n)
  other-once h rest apart once n = elim (cases_eq n number) [
    | inl same ↦
        let now = weight-zero h (owner_of owners_now n) (not-owned h head (owner_of owners_now n) (λ is. apart (sym is)) (ap (owner_of owners_now) same ∙ owner-number)) in
        once n ∙ weight-zero h (owner_of owners n) (none-owned h (owner_of owners n) (ap (owner_of owners) same ∙ none)) ∙ sym now
    | inr other ↦ once n ∙ ap (weight h) (sym (owner-other n other))
  ]

  other-chain : (h : ℕ) → h ≢ head → owner_of owners_now h ≡ Some h → HasLinkedChain owners_now links_now h
  other-chain h apart out =
      let other : h ≢ number = λ same. apart (sym (same_head (owner_of owners_now h) head h (ap (owner_of owners_now) same ∙ owner-number) out)) in
      let old = chains.linked h (sym (owner-other h other) ∙ out) in
      let rest = old.0 in
      let number_none : times number (h ∷ rest) ≡ 0 = old.1.once number ∙ weight-zero h (owner_of owners number) (none-owned h (owner_of owners number) none) in
      let head_none : times head (h ∷ rest) ≡ 0 = old.1.once head ∙ weight-zero h (owner_of owners head) (not_of h apart) in
      let between = LinksLead-set links number (get_or links head 0) h (get_or links h 0) rest (times-none number h rest number_none).1 old.1.in_line in
      let leads = LinksLead-set links_between head number h (get_or links h 0) rest (times-none head h rest head_none).1 between in
      let link_same : get_or links_now h 0 ≡ get_or links h 0 =
      get_or-set_other links_between head h number 0 apart ∙ get_or-set_other links number h (get_or links head 0) 0 other in (
        rest,
        record {
          in_line = subst (λ l. LinksLead links_now h l rest) (sym link_same) leads;
          once = other-once h rest apart old.1.once;
        },
      )

  pub AreChains-claim : AreChains owners_now links_now
  AreChains-claim = record {
    same_size = length-set links_between head number ∙ length-set links number (get_or links head 0) ∙ chains.same_size
        ∙ sym (length-set owners number (Some head));
    heads = heads-now;
    linked = λ h out. elim (cases_eq h head) [
      | inl same ↦ subst (HasLinkedChain owners_now links_now) (sym same) head-chain
      | inr apart ↦ other-chain h apart out
    ];
  }

-- ---- a chain comes back

-- what is left to an owner
kept-is : (head h : ℕ) (owner : Option ℕ) → owner_after_release head owner ≡ Some h → (owner ≡ Some h) × (h ≢ head)
kept-is head h None kept = absurd (cc)
kept-is head h (Some k) kept = elim (cases_eq k head) [
  | inl same ↦
      let gone : owner_after_release head (Some k) ≡ None = rw (eq-eqb k head same) refl in
      absurd (none_and_some (owner_after_release head (Some k)) h gone kept)
  | inr apart ↦
      let stays : owner_after_release head (Some k) ≡ Some k = rw (ne_eqb k head apart) refl in
      let is : k ≡ h = same_head (owner_after_release head (Some k)) k h stays kept in
      (ap Some is, λ same. apart (is ∙ same))
]

is-kept : (head h : ℕ) (owner : Option ℕ) → owner ≡ Some h → h ≢ head → owner_after_release head owner ≡ Some h
is-kept head h owner is apart = rw (is, ne_eqb h head apart) refl

weight-kept : (head h : ℕ) (owner : Option ℕ) → h ≢ head → weight h (owner_after_release head owner) ≡ weight h owner
weight-kept head h None apart = refl
weight-kept head h (Some k) apart = elim (cases_eq k head) [
  | inl same ↦
      let gone : owner_after_release head (Some k) ≡ None = rw (eq-eqb k head same) refl in
      let not : is_owned_by h (Some k) ≡ false = ne_eqb k h (λ is. apart (sym is ∙ same)) in
      ap (weight h) gone ∙ sym (weight-zero h (Some k) not)
  | inr other ↦ let stays : owner_after_release head (Some k) ≡ Some k = rw (ne_eqb k head other) refl in ap (weight h) stays
]

module _ (owners : List (Option ℕ)) (links : List ℕ) (head : ℕ) (chains : AreChains owners links) where
  abbrev owners_back : List (Option ℕ)
  owners_back = map (owner_after_release head) owners

  owner-back : (n : ℕ) → owner_of owners_back n ≡ owner_after_release head (owner_of owners n)
  owner-back n = get_or-map (owner_after_release head) owners n None

  pub AreChains-release : AreChains owners_back links
  AreChains-release = record {
    same_size = chains.same_size ∙ sym (length-map owners (owner_after_release head));
    heads = λ n h out.
        let before = kept-is head h (owner_of owners n) (sym (owner-back n) ∙ out) in
        owner-back h ∙ is-kept head h (owner_of owners h) (chains.heads n h before.0) before.1;
    linked = λ h out.
        let before = kept-is head h (owner_of owners h) (sym (owner-back h) ∙ out) in
        let old = chains.linked h before.0 in (
          old.0,
          record {
            in_line = old.1.in_line;
            once = λ n. old.1.once n ∙ sym (ap (weight h) (owner-back n) ∙ weight-kept head h (owner_of owners n) before.1);
          },
        );
  }
