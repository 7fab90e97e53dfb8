-- A shelf in memory, as contracts see it.
use Rattle.std.specs.Prelude.{ℕ, List, Option, Some, option_map}
use Rattle.std.specs.List.{find}
use Rattle.std.specs.Str.{bytes_eq}
use Rattle.vnff_base.specs.Shelves.{ShelfState}

-- a file under its name
pub record NamedFile : Type 0 where
  pub name : List ℕ
  pub bytes : List ℕ

-- the files, the newest first, the numbers of the calls that are to fail, the calls so far, the count of
-- failures, and that of bytes given
pub record MemShelfState : Type 0 where
  pub files : List NamedFile
  pub failing : List ℕ
  pub calls : ℕ
  pub faults : ℕ
  pub given : ℕ

-- the bytes of the newest file of a name
abbrev pub file_named : List NamedFile → List ℕ → Option (List ℕ)
file_named files name = option_map (λ file. file.bytes) (find (λ file. bytes_eq file.name name) files)

-- as every shelf is seen: it tells its files
abbrev pub shelf_state : MemShelfState → ShelfState
shelf_state shelf = record { files = Some (file_named shelf.files); faults = shelf.faults; given = shelf.given }
