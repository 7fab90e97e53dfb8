-- The descriptors of a table, each free or in a chain that is out. This project's own.
use Rattle.std.specs.Prelude.{◌≡◌, ◌≢◌, ℕ, ◌+◌, ◌^◌, ◌<◌, ◌≤◌, ◌==◌, Bool, false, if◌then◌else◌, List, [], ◌∷◌, ◌++◌, length, map, reverse, is_some, slice_index, slice_index_or, count_by, Option, Some, None, ⊤}
use Rattle.std.specs.List.{AllByRecursion}

-- for each descriptor the head of the chain in which it is out, and the free ones; the last of them is given out first
pub record PoolState : Type 0 where
  pub owners : List (Option ℕ)
  pub free : List ℕ

-- the free descriptor that is given out next
abbrev pub first_free : List ℕ → ℕ
first_free free = slice_index (reverse free) 0

-- the head of the chain in which a descriptor is out; one past the table is in none
abbrev pub owner_of : List (Option ℕ) → ℕ → Option ℕ
owner_of owners number = slice_index_or owners number None

-- the descriptor is out in the chain of the head
abbrev pub is_owned_by : ℕ → Option ℕ → Bool
is_owned_by head (Some h) = h == head
is_owned_by head None = false

-- the number is the head of a chain that is out
abbrev pub is_chain_head : List (Option ℕ) → ℕ → Bool
is_chain_head owners id = is_owned_by id (owner_of owners id)

-- the descriptors that are out in the chain of the head, where the first of the list has the number `from`
abbrev pub numbers_in_chain : ℕ → ℕ → List (Option ℕ) → List ℕ
numbers_in_chain head from [] = []
numbers_in_chain head from (o ∷ owners) =
    let later = numbers_in_chain head (from + 1) owners in
    if is_owned_by head o then from ∷ later else later

-- what a descriptor's owner is after the chain of a head came back
abbrev pub owner_after_release : ℕ → Option ℕ → Option ℕ
owner_after_release head owner = if is_owned_by head owner then None else owner

-- the pool after the chain of a head came back
abbrev pub after_release : PoolState → ℕ → PoolState
after_release pool head = record {
  owners = map (owner_after_release head) pool.owners;
  free = pool.free ++ numbers_in_chain head 0 pool.owners;
}

-- how many descriptors are out
abbrev pub out_count : List (Option ℕ) → ℕ
out_count owners = count_by is_some owners

-- each number is a descriptor that is in no chain, and none stands there twice
abbrev pub AreFree : List (Option ℕ) → List ℕ → Type 0
AreFree owners [] = ⊤
AreFree owners (number ∷ numbers) =
    (number < length owners) × (owner_of owners number ≡ None) × AllByRecursion (λ other. other ≢ number) numbers
    × AreFree owners numbers

-- the invariant of a pool: the free list's, and each descriptor is out or in that list, which has room for all
pub record IsPool (owners : List (Option ℕ)) (free : List ℕ) (room : ℕ) : Type 0 where
  pub free_list : AreFree owners free
  pub count : out_count owners + length free ≡ length owners
  pub fits : length owners ≤ room
  pub few : length owners < 2 ^ 16

-- ---- the links of chains

-- each descriptor that is out is in the chain of a head that is out in it
abbrev pub HeadsAreOut : List (Option ℕ) → Type 0
HeadsAreOut owners = (number head : ℕ) → owner_of owners number ≡ Some head → owner_of owners head ≡ Some head

-- how often a number stands in a list
abbrev pub times : ℕ → List ℕ → ℕ
times number numbers = count_by (λ n. n == number) numbers

-- just the descriptors that are out in the chain of the head stand in the list, each once
abbrev pub AreOut : ℕ → List (Option ℕ) → List ℕ → Type 0
AreOut head owners numbers =
    (number : ℕ) → times number numbers ≡ (if is_owned_by head (owner_of owners number) then 1 else 0)

-- the numbers from `next` on, each the link of the one before it, until the link is the head again
abbrev pub LinksLead : List ℕ → ℕ → ℕ → List ℕ → Type 0
LinksLead links head next [] = next ≡ head
LinksLead links head next (number ∷ numbers) = (next ≡ number) × LinksLead links head (slice_index links number) numbers

-- the links lead from the head through the numbers, which are with the head its chain
pub record IsLinkedChain (owners : List (Option ℕ)) (links : List ℕ) (head : ℕ) (numbers : List ℕ) : Type 0 where
  pub in_line : LinksLead links head (slice_index links head) numbers
  pub once : AreOut head owners (head ∷ numbers)

abbrev pub HasLinkedChain : List (Option ℕ) → List ℕ → ℕ → Type 0
HasLinkedChain owners links head = (numbers : List ℕ) × IsLinkedChain owners links head numbers

-- the links of all chains that are out
pub record AreChains (owners : List (Option ℕ)) (links : List ℕ) : Type 0 where
  pub same_size : length links ≡ length owners
  pub heads : HeadsAreOut owners
  pub linked : (head : ℕ) → owner_of owners head ≡ Some head → HasLinkedChain owners links head
