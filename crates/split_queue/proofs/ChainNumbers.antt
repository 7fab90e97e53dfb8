-- The numbers that a posted chain gets.
use Rattle.std.proofs.Common.{◌≡◌, ◌≢◌, ℕ, zero, suc, ◌<◌, ◌≤◌, List, [], ◌∷◌, length, length-take, take, reverse, Option, sym, arith}
use Rattle.std.specs.List.{All, AllByRecursion}
use Rattle.std.proofs.lemmas.List.{reverse-append, length-reverse}
use Rattle.std.proofs.lemmas.List.Elements.{All-nil, All-cons}
use Rattle.split_queue.specs.DriverEnds.{chain_numbers}
use Rattle.split_queue.specs.Pools.{AreFree}
use Rattle.split_queue.proofs.PoolLaws.{all_push, all_weaker, AreFree-push}

-- a list, its reverse and its front
all_reverse : (P : ℕ → Type 0) (xs : List ℕ) → AllByRecursion P xs → AllByRecursion P (reverse xs)
all_reverse P [] all = tt
all_reverse P (x ∷ xs) all = rw (reverse-append (x ∷ []) xs) (all_push P (reverse xs) x (all_reverse P xs all.1) all.0)

all_take : (P : ℕ → Type 0) (count : ℕ) (xs : List ℕ) → AllByRecursion P xs → AllByRecursion P (take count xs)
all_take P zero xs all = tt
all_take P (suc count) [] all = tt
all_take P (suc count) (x ∷ xs) all = (all.0, all_take P count xs all.1)

-- the same of a free list
AreFree-reverse : (owners : List (Option ℕ)) (free : List ℕ) → AreFree owners free → AreFree owners (reverse free)
AreFree-reverse owners [] free_list = tt
AreFree-reverse owners (r ∷ free) free_list =
    let apart = all_reverse (λ other. r ≢ other) free (all_weaker (λ other. other ≢ r) (λ other. r ≢ other) (λ other ne same. ne (sym same)) free free_list.2) in
    rw (reverse-append (r ∷ []) free) (AreFree-push owners (reverse free) r free_list.0 free_list.1 apart (AreFree-reverse owners free free_list.3))

AreFree-take : (owners : List (Option ℕ)) (count : ℕ) (free : List ℕ) → AreFree owners free → AreFree owners (take count free)
AreFree-take owners zero free free_list = tt
AreFree-take owners (suc count) [] free_list = tt
AreFree-take owners (suc count) (r ∷ free) free_list = (free_list.0, free_list.1, all_take (λ other. other ≢ r) count free free_list.2, AreFree-take owners count free free_list.3)

-- so the numbers that a chain gets are free, apart and as many as its pieces
pub AreFree-chain_numbers : (owners : List (Option ℕ)) (count : ℕ) (free : List ℕ) → AreFree owners free → AreFree owners (chain_numbers count free)
AreFree-chain_numbers owners count free free_list = AreFree-take owners count (reverse free) (AreFree-reverse owners free free_list)

pub length-chain_numbers : (count : ℕ) (free : List ℕ) → count ≤ length free → length (chain_numbers count free) ≡ count
length-chain_numbers count free enough = omega (arith, length-take count (reverse free), length-reverse free)

-- and each of them is one of the table
pub AreFree-below : (owners : List (Option ℕ)) (free : List ℕ) → AreFree owners free → All (λ n. n < length owners) free
AreFree-below owners [] free_list = All-nil (λ n. n < length owners)
AreFree-below owners (r ∷ free) free_list = All-cons (λ n. n < length owners) r free free_list.0 (AreFree-below owners free free_list.3)
