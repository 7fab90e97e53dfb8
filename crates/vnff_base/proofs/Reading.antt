-- What a loop that reads a file piece by piece has so far, and its steps.
use Rattle.std.proofs.Common.{◌≡◌, ℕ, ◌≤◌, List, ◌++◌, length, Option, None, Some, IfSome, length-append}
use Rattle.std.proofs.Math.ListN.{take}
use Rattle.std.proofs.Math.Seq.{take-add}
use Rattle.std.proofs.lemmas.List.{length-take-le}
use Rattle.std.specs.Option.{IsSomeAnd}
use Rattle.vnff_base.specs.Shelves.{Files, ShelfState, Fills, ReadsFile}

-- where the shelf tells its files and one of that name is there, the bytes are a front of it
abbrev pub IsFront : Option Files → List ℕ → List ℕ → Type 0
IsFront told name bytes = IfSome told (λ files. IfSome (files name) (λ file. bytes ≡ take (length bytes) file))

-- a front of a file, and the piece behind it
file_more : (file bytes buffer : List ℕ) (place n : ℕ) → place ≡ length bytes → bytes ≡ take (length bytes) file → Fills file place n buffer → n ≤ length buffer → bytes ++ take n buffer ≡ take (length (bytes ++ take n buffer)) file
file_more file bytes buffer place n at front read fits =
    let behind = read.front in
    let taken = length-take-le n buffer fits in
    let both = length-append bytes (take n buffer) in
    let split = take-add (length bytes) n file in
    cc

-- the front grows by a piece
pub front_more : (shelf : ShelfState) (name bytes buffer : List ℕ) (place n : ℕ) → place ≡ length bytes → IsFront shelf.files name bytes → ReadsFile shelf name place n buffer → n ≤ length buffer → IsFront shelf.files name (bytes ++ take n buffer)
front_more shelf name bytes buffer place n at front read fits = where_told shelf.files front read
  where
    more : (found : Option (List ℕ)) → IfSome found (λ file. bytes ≡ take (length bytes) file) → IsSomeAnd found (λ file. Fills file place n buffer) → IfSome found (λ file. bytes ++ take n buffer ≡ take (length (bytes ++ take n buffer)) file)
    more None f r = tt
    more (Some file) f r = file_more file bytes buffer place n at f r fits

    where_told : (told : Option Files) → IsFront told name bytes → IfSome told (λ files. IsSomeAnd (files name) (λ file. Fills file place n buffer)) → IsFront told name (bytes ++ take n buffer)
    where_told None f r = tt
    where_told (Some files) f r = more (files name) f r
