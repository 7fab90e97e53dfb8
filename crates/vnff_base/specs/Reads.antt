-- What reading a whole file answers.
use Rattle.std.specs.Prelude.{ℕ, List, IfSome, IsSomeAnd}
use Rattle.vnff_base.specs.Shelves.{ShelfState}

-- where the shelf tells its files, the file of that name is there, and P holds of its bytes
abbrev pub OfFile : ShelfState → List ℕ → (List ℕ → Type 0) → Type 0
OfFile shelf name P = IfSome shelf.files (λ files. IsSomeAnd (files name) P)
