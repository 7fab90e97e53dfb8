-- What a shelf of files tells, and what a read of it gives.
use Rattle.std.specs.Prelude.{◌≡◌, ℕ, ◌<◌, ◌≤◌, List, length, take, drop, Option, None, IfSome, IsSomeAnd, ◌⊎◌}
use Rattle.vnff_base.specs.Counts.{Rose}

-- the files of a shelf: a name's bytes, where there is a file of that name
abbrev pub Files : Type 0
Files = List ℕ → Option (List ℕ)

-- the most bytes of a file that are read: 64 MiB; this project's own
abbrev pub file_limit : ℕ
file_limit = 67108864

-- What contracts see of a shelf: its files, where it tells them, how often it failed, and how many bytes it gave.
pub record ShelfState : Type 0 where
  pub files : Option Files
  pub faults : ℕ
  pub given : ℕ

-- The shelf tells its files, and the name isn't among them.
abbrev pub IsMissing : ShelfState → List ℕ → Type 0
IsMissing shelf name = IsSomeAnd shelf.files (λ files. files name ≡ None)

-- A read of n bytes at a place of a file left them in the buffer's front; none means the end of the file.
pub record Fills (file : List ℕ) (place n : ℕ) (buffer : List ℕ) : Type 0 where
  pub front : take n buffer ≡ take n (drop place file)
  pub ends : n ≡ 0 → 0 < length buffer → length file ≤ place

-- Where the shelf tells its files, the file of that name is there, and the read was of its bytes.
abbrev pub ReadsFile : ShelfState → List ℕ → ℕ → ℕ → List ℕ → Type 0
ReadsFile shelf name place n buffer =
    IfSome shelf.files (λ files. IsSomeAnd (files name) (λ file. Fills file place n buffer))

-- A read that failed: the count of failures rose, or the name is missing.
abbrev pub HasCause : ShelfState → ShelfState → List ℕ → Type 0
HasCause old new name = Rose old.faults new.faults ⊎ IsMissing old name
