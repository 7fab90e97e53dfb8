-- A chain that comes back frees each of its descriptors, which are as many as it got.
use Rattle.std.proofs.Common.{◌≡◌, ℕ, zero, suc, ◌+◌, ◌-◌, ◌<◌, ◌≤◌, true, false, cond, List, [], ◌∷◌, ◌++◌, length, length-append, length-take, take, reverse, get_or, Option, Some, None, refl, sym, ap, ◌∙◌, subst, arith}
use Rattle.std.specs.List.{count_by, Contains}
use Rattle.std.proofs.Math.ListN.{set}
use Rattle.std.proofs.lemmas.Bool.{eq-eqb}
use Rattle.std.proofs.lemmas.List.{reverse-append, take_all, take_more}
use Rattle.std.proofs.lemmas.List.Elements.{Contains-append_right}
use Rattle.std.proofs.lemmas.List.Sums.{sum_by-set, sum_by-cons}
use Rattle.split_queue.specs.DriverEnds.{chain_numbers, owners_with, pool_after_post}
use Rattle.split_queue.specs.Pools.{PoolState, is_owned_by, numbers_in_chain, owner_of, AreFree, HeadsAreOut, after_release}
use Rattle.split_queue.proofs.PoolLaws.{last_free, AreFree-pop}
use Rattle.split_queue.proofs.LinkLaws.{no_chain}

-- how many descriptors are out in the chain of a head
abbrev owned_count : ℕ → List (Option ℕ) → ℕ
owned_count head owners = count_by (is_owned_by head) owners

abbrev weight : ℕ → Option ℕ → ℕ
weight head content = cond (is_owned_by head content) 1 0

length-numbers_in_chain : (head from : ℕ) (owners : List (Option ℕ)) → length (numbers_in_chain head from owners) ≡ owned_count head owners
length-numbers_in_chain head from [] = refl
length-numbers_in_chain head from (o ∷ owners) =
    let later = length-numbers_in_chain head (from + 1) owners in
    elim (is_owned_by head o) as (λ b. length (cond b (from ∷ numbers_in_chain head (from + 1) owners) (numbers_in_chain head (from + 1) owners)) ≡ cond b 1 0 + owned_count head owners) [ true ↦ omega (arith, later) | false ↦ omega (arith, later) ]
    ∙ sym (sum_by-cons (weight head) o owners)

owned_count-claim : (head : ℕ) (owners : List (Option ℕ)) (number : ℕ) → number < length owners → owner_of owners number ≡ None → owned_count head (set owners number (Some head)) ≡ owned_count head owners + 1
owned_count-claim head owners number below none =
    let count = rw (none, eq-eqb head head refl) at (sum_by-set (weight head) owners number (Some head) None below) in
    omega (arith, count)

-- the free list's last, and what stands before it
before-last : (free : List ℕ) → 0 < length free → free ≡ take (length free - 1) free ++ get_or free (length free - 1) 0 ∷ []
before-last free some =
    let one : length free - 1 + 1 ≡ length free = omega arith in
    sym (take_all (length free) free (omega arith)) ∙ ap (λ k. take k free) (sym one) ∙ take_more free (length free - 1) 0 (omega arith)

chain_numbers-owned : (count head : ℕ) (owners : List (Option ℕ)) (free : List ℕ) → AreFree owners free → count ≤ length free → owned_count head (owners_with owners (chain_numbers count free) head) ≡ count + owned_count head owners
chain_numbers-owned zero head owners free free_list enough = omega arith
chain_numbers-owned (suc count) head owners free free_list enough =
    let rest = take (length free - 1) free in
    let number = get_or free (length free - 1) 0 in
    let is : free ≡ rest ++ number ∷ [] = before-last free (omega arith) in
    let listed_now = subst (AreFree owners) is free_list in
    let last = last_free owners rest number listed_now in
    let len : length free ≡ length rest + 1 = ap length is ∙ length-append rest (number ∷ []) in
    let backwards : reverse free ≡ number ∷ reverse rest = ap reverse is ∙ reverse-append rest (number ∷ []) in
    let given_now : chain_numbers (suc count) free ≡ number ∷ chain_numbers count rest = rw backwards refl in
    let later = chain_numbers-owned count head (set owners number (Some head)) rest (AreFree-pop owners rest number head listed_now) (omega arith) in
    rw given_now (omega (arith, later, owned_count-claim head owners number last.0 last.1))

-- a head that is free has no chain
owned_count-none : (head : ℕ) (owners : List (Option ℕ)) → ((number : ℕ) → is_owned_by head (owner_of owners number) ≡ false)
    → owned_count head owners ≡ 0
owned_count-none head [] none = refl
owned_count-none head (o ∷ owners) none =
    let first : is_owned_by head o ≡ false = none 0 in
    let here : weight head o ≡ 0 = rw first refl in
    omega (arith, here, sum_by-cons (weight head) o owners, owned_count-none head owners (λ number. none (suc number)))

-- after a chain of so many went out and came back, as many are free as before
pub after_release-free : (pool : PoolState) (count head : ℕ) → HeadsAreOut pool.owners → owner_of pool.owners head ≡ None
    → AreFree pool.owners pool.free → count ≤ length pool.free → head ≡ get_or (reverse pool.free) 0 0
    → length (after_release (pool_after_post pool count) head).free ≡ length pool.free
after_release-free pool count head heads none free_list enough is_head =
    let owners = owners_with pool.owners (chain_numbers count pool.free) (get_or (reverse pool.free) 0 0) in
    let owned = chain_numbers-owned count head pool.owners pool.free free_list enough in
    let before = owned_count-none head pool.owners (no_chain pool.owners head heads none) in
    let owned_now = rw is_head at owned in
    let before_now = rw is_head at before in
    let left : length (take (length pool.free - count) pool.free) ≡ length pool.free - count = omega (arith, length-take (length pool.free - count) pool.free) in
    rw is_head (omega (arith, left, length-append (take (length pool.free - count) pool.free) (numbers_in_chain (get_or (reverse pool.free) 0 0) 0 owners), length-numbers_in_chain (get_or (reverse pool.free) 0 0) 0 owners, owned_now, before_now))

-- a descriptor of the chain stands among those that come back
numbers_in_chain-has : (head from : ℕ) (owners : List (Option ℕ)) (number : ℕ) → owner_of owners number ≡ Some head → Contains (numbers_in_chain head from owners) (from + number)
numbers_in_chain-has head from [] number out = absurd (cc)
numbers_in_chain-has head from (o ∷ owners) zero out = rw (out, eq-eqb head head refl) (0, omega arith, omega arith)
numbers_in_chain-has head from (o ∷ owners) (suc number) out =
    let at : from + 1 + number ≡ from + suc number = omega arith in
    let later = subst (λ k. Contains (numbers_in_chain head (from + 1) owners) k) at (numbers_in_chain-has head (from + 1) owners number out) in
    elim (is_owned_by head o) as (λ b. Contains (cond b (from ∷ numbers_in_chain head (from + 1) owners) (numbers_in_chain head (from + 1) owners)) (from + suc number)) [
      | true ↦ Contains-append_right (from ∷ []) (numbers_in_chain head (from + 1) owners) (from + suc number) later
      | false ↦ later
    ]

-- so it is in the free list
pub after_release-contains : (pool : PoolState) (head number : ℕ) → owner_of pool.owners number ≡ Some head → Contains (after_release pool head).free number
after_release-contains pool head number out =
    let at : 0 + number ≡ number = omega arith in
    let back = subst (λ k. Contains (numbers_in_chain head 0 pool.owners) k) at (numbers_in_chain-has head 0 pool.owners number out) in
    Contains-append_right pool.free (numbers_in_chain head 0 pool.owners) number back
